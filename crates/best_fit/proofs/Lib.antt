pub mod Edges
pub mod FreeRuns
pub mod Smallest
pub mod Laws
