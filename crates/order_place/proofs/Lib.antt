pub mod PlaceLemmas
pub mod ClockLemmas
pub mod KeptLemmas
pub mod NodeLemmas
pub mod EventLemmas
pub mod TurnLemmas
