pub mod Grammar
pub mod Statements
pub mod Trees
pub mod Prefixes
pub mod Refusals
pub mod Sources
pub mod reading
