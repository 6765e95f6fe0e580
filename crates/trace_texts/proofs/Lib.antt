pub mod AnswerLine
pub mod AnswersLaws
pub mod WholeTexts
