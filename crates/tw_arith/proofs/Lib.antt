pub mod Built
pub mod Loads
pub mod Operations
pub mod Placing
pub mod Pricing
