pub mod Answers
pub mod Effects
pub mod Usual
pub mod Held
pub mod OwnFields
