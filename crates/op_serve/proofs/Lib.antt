pub mod ByDock
pub mod FromOrder
pub mod Parts
