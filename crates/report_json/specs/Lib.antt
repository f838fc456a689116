pub mod Asks
pub mod Reading
pub mod Replies
