pub mod Gathered
pub mod Loops
pub mod Work
pub mod Turns
pub mod Batches
pub mod Queuing
pub mod Pool
