pub mod Words
pub mod Living
pub mod Requests
pub mod Named
