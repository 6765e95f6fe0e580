pub mod Rows
pub mod Report
pub mod Complete
pub mod Marked
