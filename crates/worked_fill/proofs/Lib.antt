mod Lines
mod Room
mod Writing
