pub mod Parts
pub mod Reading
pub mod Put
pub mod ToTables
pub mod Entries
