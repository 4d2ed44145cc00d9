pub mod Pipes
pub mod Net
pub mod Types
pub mod Steps
