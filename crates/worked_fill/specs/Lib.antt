pub mod Text
pub mod Sample
pub mod Figures
pub mod Worked
