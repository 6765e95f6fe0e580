pub mod Places
pub mod Walk
