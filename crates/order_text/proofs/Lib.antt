pub mod CutLemmas
pub mod MarkLemmas
pub mod StampLemmas
pub mod UndoLemmas
pub mod LineLemmas
