pub mod Parts
pub mod Results
pub mod Room
