pub mod KindText
pub mod Messages
pub mod Laws
pub mod Meaning
pub mod ErrorText
pub mod Framing
