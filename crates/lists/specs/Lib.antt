pub mod Tests
pub mod Lists
pub mod Parts
pub mod Members
