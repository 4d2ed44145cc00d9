pub mod ReadTurns
pub mod Held
pub mod Asking
pub mod Making
