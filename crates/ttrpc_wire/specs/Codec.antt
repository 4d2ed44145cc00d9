pub mod Members
pub mod InPlace
