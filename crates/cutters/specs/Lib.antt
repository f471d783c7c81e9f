pub mod Cutting
pub mod Lawfulness
