pub mod Enablement
pub mod Moments
pub mod Next
pub mod Times
pub mod TimesExample
pub mod TimesOfEvents
pub mod Versions
