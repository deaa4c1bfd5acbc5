pub mod Suffixes
pub mod Digits
pub mod Prefix
pub mod Limits
pub mod Places
pub mod Refusals
