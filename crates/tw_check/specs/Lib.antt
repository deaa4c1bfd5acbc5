pub mod Names
pub mod Reverse
pub mod Liveness
pub mod Right
pub mod Rules
pub mod Examples
pub mod Walks
pub mod EntryPoints
