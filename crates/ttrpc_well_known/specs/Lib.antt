pub mod Messages
pub mod Any
pub mod Times
