pub mod RowLaws
pub mod WholeTexts
pub mod TablesOfLines
pub mod KeyOrder
