pub mod Outcomes
pub mod Telling
pub mod Words
pub mod Runs
