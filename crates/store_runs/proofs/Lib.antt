pub mod EndLemmas
pub mod RefusalLemmas
pub mod ResumeLemmas
pub mod StoreRuns
