pub mod Claims
pub mod CommandLine
pub mod Headline
pub mod Jobs
pub mod Standard
pub mod Trials
pub mod Words
