pub mod Suffixes
pub mod Decimals
pub mod Prefixes
pub mod Wholes
