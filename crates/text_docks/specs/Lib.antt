pub mod Docks
