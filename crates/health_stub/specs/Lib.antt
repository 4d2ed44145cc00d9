pub mod Messages
pub mod Health
pub mod Report
pub mod Scan
