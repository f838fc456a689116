pub mod Growing
pub mod Linking
