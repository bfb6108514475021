pub mod Compared
pub mod Made
pub mod Turns
