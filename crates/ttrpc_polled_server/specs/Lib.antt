pub mod Built
pub mod Handling
pub mod Held
pub mod Needs
pub mod Opened
pub mod Served
pub mod Steps
pub mod Stopping
