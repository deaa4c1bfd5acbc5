pub mod Lists
pub mod Numbers
pub mod Operators
pub mod Words
pub mod Writing
