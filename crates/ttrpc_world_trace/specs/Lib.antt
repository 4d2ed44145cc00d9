pub mod Types
pub mod Trace
pub mod Flows
pub mod Told
pub mod Clean
pub mod Headline
pub mod Flight
