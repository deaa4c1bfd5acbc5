pub mod Shapes
pub mod Lists
pub mod Unequal
pub mod Deciding
pub mod DecidedTypes
pub mod DecidedTerms
pub mod DecidedPrograms
pub mod Sets
