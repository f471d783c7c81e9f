pub mod Safety
pub mod Turning
