pub mod Bodies
pub mod Digits
mod Examples
pub mod Fronts
pub mod LastUnder
pub mod ListSpellings
pub mod NestedSpellings
pub mod Plain
pub mod Runs
pub mod Spellings
pub mod StructSpellings
mod ThriftExamples
pub mod Varints
pub mod WithinLaws
pub mod WrittenSpellings
