pub mod Runs
pub mod BestFit
pub mod FreeSheets
