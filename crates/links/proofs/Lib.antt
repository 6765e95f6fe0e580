pub mod Bounded
pub mod Depths
pub mod Reached
