pub mod DirectlyBelow
pub mod Reaching
pub mod Queue
pub mod Turns
pub mod InImage
pub mod Again
