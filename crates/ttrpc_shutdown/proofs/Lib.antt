pub mod Between
pub mod Keeps
