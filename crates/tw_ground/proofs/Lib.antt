pub mod ListStates
pub mod TypedLists
pub mod MakingLists
