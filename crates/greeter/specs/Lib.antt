pub mod Messages
pub mod Visits
