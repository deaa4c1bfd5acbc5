pub mod Examples
pub mod Names
pub mod Types
pub mod Terms
pub mod Statements
pub mod Programs
pub mod Unplaced
pub mod Same
