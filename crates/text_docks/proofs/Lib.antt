pub mod Walk
pub mod Undocked
pub mod Docking
pub mod Loaded
