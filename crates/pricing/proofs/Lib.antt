pub mod LeftOut
pub mod Prices
pub mod Shares
pub mod Walks
