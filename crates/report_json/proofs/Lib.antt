pub mod AskLaws
pub mod Cuts
pub mod DigitLemmas
pub mod Floats
pub mod OneLine
pub mod PlaceLemmas
pub mod TimeLemmas
