pub mod Goods
pub mod Counting
pub mod Listed
pub mod Nesting
