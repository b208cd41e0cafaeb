pub mod Counting
mod Examples
pub mod Fitting
mod ProjectionExamples
pub mod NodeViews
mod Testing
