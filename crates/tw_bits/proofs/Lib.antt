pub mod Laws
mod Parts
mod Places
mod WordNumbers
pub mod Writings
