pub mod Numbers
pub mod Names
pub mod Staged
pub mod Places
pub mod Intervals
pub mod Order
