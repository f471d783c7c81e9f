pub mod Inverses
pub mod InverseLaws
