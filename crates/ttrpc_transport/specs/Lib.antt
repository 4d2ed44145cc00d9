pub mod Address
pub mod Sockets
pub mod Listeners
pub mod Opened
