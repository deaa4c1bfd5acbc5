pub mod Cursors
pub mod Left
pub mod Next
pub mod Scans
pub mod Symbols
pub mod Tokens
