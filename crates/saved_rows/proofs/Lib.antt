pub mod SpelledLemmas
pub mod RunLemmas
pub mod RowLemmas
pub mod WalkLemmas
pub mod JoinLemmas
pub mod SettleLemmas
pub mod ExtendLemmas
