pub mod DigitLemmas
pub mod EventLemmas
