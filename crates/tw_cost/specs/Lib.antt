pub mod Costs
pub mod Prices
pub mod Counting
