pub mod Entries
pub mod Gates
pub mod Growing
pub mod Taking
pub mod Weight
