pub mod Appended
pub mod Headers
pub mod Laws
pub mod Runs
