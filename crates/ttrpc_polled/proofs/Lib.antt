pub mod Gathering
pub mod Waiting
pub mod StreamsWaiting
