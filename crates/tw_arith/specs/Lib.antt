pub mod Circuits
pub mod Examples
pub mod Operands
pub mod Prices
pub mod Xors
