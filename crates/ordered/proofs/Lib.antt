pub mod Finds
pub mod Keeps
pub mod Places
pub mod Slides
