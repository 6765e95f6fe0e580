mod TakenSteps
mod Linking
mod Hanging
mod Parents
mod Whole
