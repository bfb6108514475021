pub mod Faults
pub mod Members
pub mod Reading
pub mod Held
pub mod Lookups
pub mod Settings
pub mod Keeping
