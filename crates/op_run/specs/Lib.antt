pub mod Ends
pub mod Better
