mod RowLaws
mod Lines
mod Going
mod Chosen
mod Rounds
