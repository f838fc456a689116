pub mod Store
pub mod Order
pub mod Conditions
pub mod Tables
