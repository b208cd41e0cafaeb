pub mod Faults
pub mod Cut
pub mod Tokens
pub mod Number
pub mod Seen
pub mod Slots
