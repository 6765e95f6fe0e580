pub mod ReadingLaws
pub mod NamesLaws
pub mod NumberLaws
pub mod ReadingSteps
pub mod WritingLaws
pub mod WritingSteps
pub mod Appending
pub mod NextLine
