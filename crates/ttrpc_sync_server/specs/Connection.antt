pub mod Held
pub mod ReadTurns
pub mod Backlogs
pub mod Pauses
