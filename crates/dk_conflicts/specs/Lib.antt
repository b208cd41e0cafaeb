pub mod Conflicts
pub mod Claims
