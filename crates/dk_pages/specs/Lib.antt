pub mod Entries
pub mod Found
pub mod Headers
pub mod Pages
pub mod Spelled
pub mod Split
