mod Awaiting
mod RuleWalks
