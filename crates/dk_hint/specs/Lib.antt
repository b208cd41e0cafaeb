pub mod Canonical
pub mod Spelled
pub mod Written
pub mod Sorted
pub mod Example
