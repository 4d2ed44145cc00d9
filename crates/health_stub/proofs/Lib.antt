pub mod Members
pub mod Telling
pub mod Story
pub mod Reported
