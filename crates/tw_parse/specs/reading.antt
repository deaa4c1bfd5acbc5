-- What the parsing functions read: the rules of the grammar as functions from the tokens that are left.
pub mod Steps
pub mod Terms
pub mod Statements
pub mod Parts
pub mod Outcomes
