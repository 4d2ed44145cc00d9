pub mod Prefixes
pub mod Colons
pub mod Refused
