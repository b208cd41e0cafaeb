pub mod Gathered
pub mod Places
pub mod StayInForce
pub mod Unused
pub mod Unwritten
