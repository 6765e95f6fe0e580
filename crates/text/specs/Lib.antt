pub mod Bytes
pub mod Reading
pub mod FieldNumber
pub mod Names
pub mod Writing
pub mod Appending
