pub mod Keeps
pub mod Masks
pub mod Numbered
pub mod Places
pub mod Stands
