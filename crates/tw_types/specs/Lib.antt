pub mod Types
pub mod Values
pub mod FromCode
pub mod Coding
pub mod Table
