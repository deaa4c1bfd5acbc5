mod Answered
mod Blocks
mod FrontLine
pub mod Laws
mod Loading
mod Reading
mod WordBits
