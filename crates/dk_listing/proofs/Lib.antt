pub mod CompleteNames
pub mod PartSets
pub mod Rising
pub mod Small
pub mod Standing
pub mod LatestOf
pub mod Sized
pub mod Places
