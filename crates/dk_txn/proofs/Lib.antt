pub mod AtLatest
pub mod Clashes
mod ByFile
mod Effects
mod Headed
mod RulesOfLaw
mod Refusals
pub mod Concluding
pub mod Next
pub mod OpenStarts
pub mod Lawfully
pub mod LawfulWinners
pub mod FitTransactions
pub mod OwnStaysFit
pub mod NotAbove
pub mod ReadWinners
pub mod Preparing
pub mod Readable
pub mod Starts
mod StandingCommits
pub mod Written
