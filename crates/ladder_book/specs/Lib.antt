pub mod Queues
pub mod Levels
pub mod Listed
pub mod Walks
