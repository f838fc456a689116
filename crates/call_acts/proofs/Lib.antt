pub mod RecordLists
pub mod RowActs
pub mod RowSizes
pub mod EventLaws
pub mod RowShapes
pub mod TableLemmas
