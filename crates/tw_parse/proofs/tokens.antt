-- What the tests on lexemes tell.
pub mod Words
