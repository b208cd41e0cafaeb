pub mod Footers
pub mod Found
pub mod Kept
pub mod Readings
pub mod Trees
pub mod View
