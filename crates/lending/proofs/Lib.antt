pub mod Lengths
pub mod Refusals
pub mod Served
pub mod Kept
pub mod IsSequence
