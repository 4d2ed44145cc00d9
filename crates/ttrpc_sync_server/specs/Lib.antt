pub mod Settings
pub mod Built
pub mod Accepting
pub mod Connection
