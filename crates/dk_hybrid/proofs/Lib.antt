pub mod Bits
pub mod Counted
pub mod Groups
pub mod Made
pub mod Numbers
pub mod Progress
pub mod Standing
pub mod Written
