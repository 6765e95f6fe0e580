pub mod Row
pub mod Save
pub mod Load
pub mod Claims
