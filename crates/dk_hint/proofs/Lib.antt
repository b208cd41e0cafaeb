mod Adding
mod InRange
mod SortedKeys
mod TextOrNot
mod WrittenBack
