pub mod Steps
pub mod Names
pub mod Walks
pub mod OneTicket
pub mod Removal
