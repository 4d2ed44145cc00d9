pub mod Counting
pub mod Handing
pub mod Untold
pub mod Working
pub mod Writing
