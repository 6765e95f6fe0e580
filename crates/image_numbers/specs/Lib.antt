pub mod Numbers
pub mod Steps
