-- The forms of the grammar: tokens have at most one (One..), the text of a form is longer than what follows it (Grows), and
-- each form has one without places, which is that of the same tokens without places (Unplaced..).
pub mod OneExpr
pub mod OneRhs
pub mod OneStmt
pub mod OneProgram
pub mod Grows
pub mod UnplacedTerms
pub mod UnplacedStatements
