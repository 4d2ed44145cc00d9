pub mod Closing
pub mod Handling
pub mod Items
pub mod Needs
pub mod Steps
pub mod Polling
pub mod Waiting
