-- What a commit did to a lawful log, of a transaction that stands to it, whatever its id.
use Rattle.std.proofs.Common.{◌≡◌, ℤ, true, false, List, refl, ap, sym, subst}
use Rattle.std.specs.Prelude.{Option, Some, None, Result, Ok, Err, IfSome, is_some}
use Rattle.dk_store.specs.Told.{Told}
use Rattle.dk_model.specs.declared.action.Action.{Action}
use Rattle.dk_engine.specs.declared.limits.Limits.{Limits}
use Rattle.dk_engine.specs.declared.refusal.Refusal.{Refusal}
use Rattle.dk_lawful.specs.History.{history}
use Rattle.dk_lawful.specs.Kept.{IfBoth, IsSameHistory, KeepsLawful}
use Rattle.dk_txn.specs.declared.commit.Committed.{Committed}
use Rattle.dk_txn.specs.declared.transaction.Transaction.{Transaction}
use Rattle.dk_txn.specs.Attempt.{Writing}
use Rattle.dk_txn.specs.Commits.{Commits, HistoryAfterCommit}
use Rattle.dk_txn.specs.Transactions.{Outcome, AlreadyCommitted, ToWrite, outcome, Concludes, Comes, ConcludesHistory}
use Rattle.dk_txn.specs.TransactionHistory.{own_of, StaysLawfulFrom, HistoryFrom, SaysFrom}
use Rattle.dk_txn.proofs.FitTransactions.{plain_of, plain_comes, standing_is_next}
use Rattle.dk_txn.proofs.Lawfully.{refused_same}

pub stays_lawful : (told new : Option (List Told)) (limits : Limits) (t : Transaction) (now : ℤ) → is_some new ≡ is_some told
    → (IfSome told (λ events. Comes (outcome events limits t now) (plain_of t) events) → KeepsLawful told new) → IfBoth told new (StaysLawfulFrom t)
stays_lawful None None limits t now alike keeps = tt
stays_lawful None (Some later) limits t now alike keeps = absurd (let no : true ≡ false = alike in cc)
stays_lawful (Some events) None limits t now alike keeps = absurd (let no : false ≡ true = alike in cc)
stays_lawful (Some events) (Some later) limits t now alike keeps = λ horizon lawful stands. (keeps (plain_comes events horizon limits t now lawful stands)).lawful horizon lawful

same_told : (events later : List Told) → ◌≡◌ {A = Option (List Told)} (Some later) (Some events) → later ≡ events
same_told events later is = cc

unmoved : (events later : List Told) (cause : Refusal) (answer : Result Committed Refusal) → Commits (Err cause) events answer (Some later) → IsSameHistory events later
unmoved events later cause (Ok committed) (writing, is, at, adds) = absurd (let no : ◌≡◌ {A = Result Writing Refusal} (Err cause) (Ok writing) = is in cc)
unmoved events later cause (Err refusal) did = ap history (refused_same events later refusal cause did)

says_from : (events later : List Told) (limits : Limits) (t : Transaction) (now : ℤ) (result : Result Committed Refusal) → Concludes (outcome events limits t now) events result (Some later)
    → (Comes (outcome events limits t now) (plain_of t) events → ConcludesHistory (outcome events limits t now) (plain_of t) result events later)
    → SaysFrom t now (λ es. outcome es limits t now) result events later
says_from events later limits t now result did says horizon lawful stands = by (outcome events limits t now) refl did (says (plain_comes events horizon limits t now lawful stands))
  where
    by : (meant : Result Outcome Refusal) → outcome events limits t now ≡ meant → Concludes meant events result (Some later) → ConcludesHistory meant (plain_of t) result events later
        → HistoryFrom meant (own_of t events now) result events later
    by (Ok (ToWrite writing)) is concludes said =
        let next = standing_is_next events horizon limits t now writing lawful stands is in
        subst (λ (own : List Action). HistoryAfterCommit own result events later) (sym next.written) (said horizon lawful)
    by (Ok (AlreadyCommitted version)) is concludes said = ap history (same_told events later concludes.1)
    by (Err cause) is concludes said = unmoved events later cause result concludes

-- over what a store may tell
pub tells_from : (told new : Option (List Told)) (limits : Limits) (t : Transaction) (now passed : ℤ) (result : Result Committed Refusal) → passed ≡ now → is_some new ≡ is_some told
    → IfSome told (λ events. Concludes (outcome events limits t passed) events result new)
    → (IfSome told (λ events. Comes (outcome events limits t passed) (plain_of t) events) → IfBoth told new (λ events later. ConcludesHistory (outcome events limits t passed) (plain_of t) result events later))
    → IfBoth told new (SaysFrom t now (λ es. outcome es limits t now) result)
tells_from None None limits t now passed result moment alike did says = tt
tells_from None (Some later) limits t now passed result moment alike did says = absurd (let no : true ≡ false = alike in cc)
tells_from (Some events) None limits t now passed result moment alike did says = absurd (let no : false ≡ true = alike in cc)
tells_from (Some events) (Some later) limits t now passed result moment alike did says =
    subst (λ (n : ℤ). SaysFrom t n (λ es. outcome es limits t n) result events later) moment (says_from events later limits t passed result did says)
