pub mod LineReading
pub mod SameDock
pub mod LineServed
pub mod TraceSteps
pub mod WholeTrace
pub mod LentTrace
