pub mod Names
pub mod InForce
pub mod Invariants
pub mod Support
pub mod Forms
pub mod Listed
