pub mod FileLemmas
pub mod HeldLemmas
pub mod ModeLemmas
pub mod MinorLemmas
pub mod CallLemmas
