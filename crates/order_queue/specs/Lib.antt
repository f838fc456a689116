pub mod Queue
pub mod Turned
pub mod Order
pub mod Total
pub mod Marks
