pub mod Parents
pub mod Order
