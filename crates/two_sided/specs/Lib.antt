pub mod Resized
