-- The automaton that goes through tokens comes to what the grammar says of them: a program, or where one goes wrong.
-- What it takes meets what is awaited (Awaited, Built.., Forests); each form is taken (Taken..); what is awaited can be
-- completed (Completions); brackets are counted as the grammar counts them (Counts, Shallow); where it halts (Halts).
pub mod Transitions
pub mod Walks
pub mod Awaited
pub mod BuiltTypes
pub mod BuiltExprs
pub mod BuiltStmts
pub mod BuiltDecls
pub mod Forests
pub mod TakenExprs
pub mod TakenStmts
pub mod TakenPrograms
pub mod Completions
pub mod ViablePrefixes
pub mod Counts
pub mod Shallow
pub mod Halts
pub mod Verdicts
