pub mod Corners
pub mod Laws
pub mod Quotients
pub mod Roots
