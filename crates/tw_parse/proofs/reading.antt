-- The readers of the grammar's rules: what they say of the tokens that they took (Says..), and that the automaton follows
-- them (Runs..); so a text is read as its tree, or up to where it goes wrong (Readings).
pub mod Says
pub mod SaysTypes
pub mod SaysPaths
pub mod SaysExprs
pub mod SaysRhs
pub mod SaysStmts
pub mod SaysPrograms
pub mod Runs
pub mod RunsTypes
pub mod RunsLists
pub mod RunsPaths
pub mod RunsExprs
pub mod RunsRhs
pub mod RunsStmts
pub mod RunsPrograms
pub mod Readings
