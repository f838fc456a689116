pub mod CacheLemmas
pub mod HeldLemmas
pub mod RangeLemmas
