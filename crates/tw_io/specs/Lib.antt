pub mod Buffer
pub mod Devices
pub mod Memory
