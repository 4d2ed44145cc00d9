pub mod Stamp
pub mod Others
