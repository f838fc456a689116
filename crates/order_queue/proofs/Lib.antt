pub mod TurnLemmas
pub mod MarkLemmas
pub mod RowLemmas
