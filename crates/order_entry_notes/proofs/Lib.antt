mod Noting
mod Passing
mod NoteSteps
pub mod Grants
pub mod Laws
