pub mod Parsing
pub mod Fields
pub mod Keys
pub mod Tables
pub mod State
pub mod Rows
pub mod Payload
