pub mod Answers
pub mod Borrowed
pub mod Fronts
pub mod Laws
pub mod Places
pub mod Reading
pub mod Repeated
pub mod Solid
