-- What the proofs of single functions cite: the tokens that are left, loops that read a list, and rows of statements.
pub mod Lefts
pub mod Many
pub mod Chains
