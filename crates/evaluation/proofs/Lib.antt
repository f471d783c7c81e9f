pub mod Growing
pub mod Single
pub mod Working
pub mod Aiming
pub mod Tallies
pub mod Truths
pub mod Concluding
