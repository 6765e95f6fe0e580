pub mod Numbers
pub mod Sequence
pub mod Batch
pub mod Host
pub mod Trace
pub mod Report
pub mod Saved
