pub mod SameOutcome
