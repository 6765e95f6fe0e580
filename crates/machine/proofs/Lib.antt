pub mod RefusalLaws
pub mod Untouched
pub mod CaseLines
pub mod WorkedCases
pub mod Traps
pub mod RefusalOrder
pub mod EdgeCases
pub mod CasesHold
