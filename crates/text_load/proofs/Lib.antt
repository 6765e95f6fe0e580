pub mod Lines
pub mod WholeText
pub mod WholeLoad
