pub mod BitLines
pub mod Lanes
