pub mod Runs
pub mod Saved
pub mod Remembered
pub mod Joining
