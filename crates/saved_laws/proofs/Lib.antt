pub mod TextOfRows
pub mod RowsBack
pub mod Room
pub mod Assembly
pub mod LoadedIsSaved
