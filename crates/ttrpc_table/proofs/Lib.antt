mod Calls
mod Parts
pub mod Users
