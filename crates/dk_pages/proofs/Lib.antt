pub mod DictionaryCodes
pub mod Growing
pub mod Meanings
pub mod PageExamples
pub mod PageKinds
pub mod PageSpellings
pub mod Taking
