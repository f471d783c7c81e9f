pub mod Scratch
pub mod Laws
pub mod Judging
pub mod Words
