pub mod AgainLaws
pub mod GroupLemmas
pub mod Passes
pub mod Places
pub mod Walking
pub mod Written
