pub mod Gate
pub mod Own
pub mod Rules
pub mod Answers
