pub mod Layout
pub mod Numbers
pub mod Image
