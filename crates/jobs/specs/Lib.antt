pub mod Registers
pub mod Meaning
pub mod Reading
pub mod Words
