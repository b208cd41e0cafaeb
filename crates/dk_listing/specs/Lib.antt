pub mod Entries
pub mod Latest
pub mod Newest
pub mod OfEvents
pub mod Parts
pub mod Presence
pub mod Sizes
