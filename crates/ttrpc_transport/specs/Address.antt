pub mod Addresses
pub mod Vsock
pub mod Places
