mod Seen
mod KeySteps
pub mod Laws
