pub mod Settled
pub mod Keyed
pub mod Summary
pub mod Taken
pub mod Example
