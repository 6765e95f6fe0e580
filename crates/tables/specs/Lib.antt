pub mod Kinds
pub mod Names
pub mod Lookup
pub mod Chains
pub mod Sheets
pub mod Order
pub mod Change
pub mod Same
