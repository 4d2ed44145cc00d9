pub mod Told
mod Maps
mod Taken
mod Distinct
mod Copies
