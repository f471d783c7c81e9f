pub mod Sums
pub mod Factors
pub mod Squares
