pub mod Places
pub mod Steps
pub mod Loans
pub mod Going
