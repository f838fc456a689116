pub mod BroodLemmas
pub mod FamilyLemmas
pub mod NodeLemmas
pub mod HeardLemmas
