pub mod Deeds
pub mod Known
pub mod Lines
pub mod Minor
pub mod Reads
