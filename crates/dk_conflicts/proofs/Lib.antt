pub mod NamesLeft
pub mod FirstKind
