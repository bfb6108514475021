pub mod Counting
pub mod Walk
pub mod Price
pub mod Figures
