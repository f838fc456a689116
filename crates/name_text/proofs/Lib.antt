pub mod PartLemmas
pub mod JoinLemmas
pub mod PlaceLemmas
pub mod GroupLemmas
pub mod HalfLemmas
pub mod TidyLemmas
pub mod PlainLemmas
