pub mod Act
pub mod Entries
pub mod Inverse
pub mod Taking
pub mod NextGate
