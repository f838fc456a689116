pub mod Course
pub mod Dialogue
pub mod Hearing
pub mod Listening
pub mod Runs
pub mod Saves
pub mod Settles
pub mod StoreHalts
