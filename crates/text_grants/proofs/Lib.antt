mod Grants
pub mod Programs
