pub mod Sorts
pub mod Putting
pub mod Made
