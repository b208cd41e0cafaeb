mod Turns
mod LineTurns
mod Pairs
mod Keys
mod Tokens
mod Rising
mod LineText
mod Seen
pub mod Slots
