-- What the contracts of the crate cite.
pub mod Numbers
pub mod Places
pub mod Reasons
pub mod Faults
pub mod Rules
pub mod Operations
pub mod Entries
pub mod Layouts
pub mod Counted
pub mod Verdicts
pub mod Encoding
pub mod Broken
