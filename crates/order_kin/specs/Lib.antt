pub mod Heard
pub mod Broods
pub mod Families
