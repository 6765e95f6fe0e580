pub mod Turns
pub mod Values
pub mod Laws
