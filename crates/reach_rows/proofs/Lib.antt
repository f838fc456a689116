pub mod AskedLemmas
pub mod NextFlow
pub mod ObjectLemmas
pub mod PackedLemmas
pub mod PackedObjectLemmas
pub mod RowLemmas
