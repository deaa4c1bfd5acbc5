pub mod Terms
pub mod Programs
pub mod Progress
pub mod ReadBack
