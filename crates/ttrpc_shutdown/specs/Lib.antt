pub mod Holding
pub mod Rule
pub mod ShutdownWords
