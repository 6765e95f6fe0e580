pub mod BestFit
pub mod Claims
