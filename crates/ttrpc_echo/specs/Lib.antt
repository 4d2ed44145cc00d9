pub mod Echo
pub mod Answered
pub mod Serving
pub mod Program
