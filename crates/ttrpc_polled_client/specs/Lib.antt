pub mod Calling
pub mod Held
pub mod Making
pub mod Steps
pub mod Needs
pub mod Opening
