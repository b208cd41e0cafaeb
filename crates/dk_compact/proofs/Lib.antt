mod LentEntries
mod TakenNewest
mod LastWords
mod Sums
