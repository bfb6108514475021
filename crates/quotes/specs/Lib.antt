pub mod Faults
pub mod Fills
pub mod Entries
pub mod Tables
pub mod Refills
pub mod Soundness
pub mod Standing
