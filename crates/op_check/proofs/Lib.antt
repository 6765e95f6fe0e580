pub mod Chains
pub mod Laws
