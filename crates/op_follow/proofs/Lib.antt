pub mod Turns
pub mod ByNames
