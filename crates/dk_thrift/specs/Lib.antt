pub mod GivesFront
pub mod Groups
pub mod Reading
pub mod Walks
pub mod Writing
