pub mod Lengths
pub mod Encoding
pub mod Zeros
pub mod Extents
pub mod Tables
