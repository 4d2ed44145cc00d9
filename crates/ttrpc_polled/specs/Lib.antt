pub mod Connecting
pub mod Passing
pub mod Needs
pub mod Sharing
pub mod Sockets
pub mod Waiting
pub mod Streams
