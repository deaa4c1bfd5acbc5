-- The laws of the definitions, by subject: each room says at its head what it has. Sources stands on them all, and has what
-- the contract of parse cites; Elsewhere says that places decide nothing.
pub mod tokens
pub mod forms
pub mod automaton
pub mod reading
pub mod code
pub mod Sources
pub mod Elsewhere
pub mod Worked
