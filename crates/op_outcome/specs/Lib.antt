pub mod Outcomes
pub mod Ready
pub mod Decides
pub mod Refusing
