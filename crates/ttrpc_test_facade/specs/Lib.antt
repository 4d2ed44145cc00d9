pub mod Huge
