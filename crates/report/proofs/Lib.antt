pub mod Joining
pub mod Leaving
