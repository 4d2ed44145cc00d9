pub mod Messages
pub mod Metadata
pub mod Calls
