pub mod Decides
pub mod Grant
