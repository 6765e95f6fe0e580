pub mod Found
pub mod Parts
