pub mod Leasts
pub mod Growth
