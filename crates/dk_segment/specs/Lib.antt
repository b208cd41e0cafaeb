pub mod Chosen
pub mod CommitIndex
pub mod Laws
pub mod Places
pub mod Walked
