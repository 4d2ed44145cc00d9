mod Added
mod Refusals
