pub mod Line
pub mod Trace
