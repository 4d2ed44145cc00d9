pub mod Limits
pub mod Known
pub mod Echoing
pub mod Writing
pub mod Stopping
pub mod Passing
pub mod Answering
mod OneWord
