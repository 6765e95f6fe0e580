pub mod OneRecall
mod Whole
mod NoRecalls
