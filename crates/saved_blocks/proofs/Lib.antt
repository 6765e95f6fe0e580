pub mod BlockLaws
pub mod BlocksAreRows
