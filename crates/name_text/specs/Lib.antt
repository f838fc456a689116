pub mod Addresses
pub mod KeyTexts
pub mod Paths
pub mod TidyPaths
pub mod PlainPaths
