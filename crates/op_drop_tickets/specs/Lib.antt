pub mod Docked
pub mod Linked
pub mod Marks
