pub mod Cut
pub mod Stamp
pub mod Laws
pub mod Undo
pub mod Seen
