pub mod KeptFlows
pub mod Answering
pub mod Taking
pub mod Restoring
pub mod Committing
