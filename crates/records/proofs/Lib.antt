-- The lemmas of the crate, by topic.
pub mod Checks
pub mod Ranks
pub mod Runs
pub mod Filling
pub mod Goods
pub mod Shapes
pub mod Firsts
pub mod Digits
pub mod Written
pub mod Encoded
pub mod Given
pub mod Placed
pub mod Complete
pub mod Exactly
