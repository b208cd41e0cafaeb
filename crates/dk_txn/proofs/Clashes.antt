-- How often the path of a commit was taken.
use Rattle.std.proofs.Common.{◌≡◌, ℕ, ◌<◌, ◌^◌, List, true, false, refl, sym, ap, subst, ◌∙◌, true≢false, arith}
use Rattle.std.specs.Prelude.{None, Result, Ok, Err, IfErr}
use Rattle.dk_store.specs.Causes.{Rose}
use Rattle.dk_engine.specs.declared.refusal.Refusal.{Refusal}
use Rattle.dk_engine.specs.declared.refusal.Refusal.TheVariants as refusals
use Rattle.dk_txn.specs.declared.commit.Committed.{Committed}
use Rattle.dk_lawful.proofs.Standing.{commit_place}
use Rattle.dk_paths.specs.Names.{commit_path}
use Rattle.dk_paths.specs.Places.{Place, Commit_at, Staged, place_of}
use Rattle.dk_txn.specs.Commits.{CountsClash, RoseTwice, ClashesAt, TakenClashes, was_taken}
use Rattle.dk_txn.specs.Refusals.{BeginRefuses}

-- a refusal that was never that the path was taken
pub never_clashed : {X : Type 0} (refusal : Refusal) (before now : ℕ) → ((path : List ℕ) → ◌≡◌ {A = Result X Refusal} (Err refusal) (Err (refusals.Taken path)) → ⊥) → now ≡ before → CountsClash (Err refusal) before now
never_clashed (refusals.Taken path) before now never same = absurd (never path refl)
never_clashed refusal before now never same = same

-- what was counted from a later moment on, at which the count was as before
pub counted_from : (result : Result Committed Refusal) (before mid now : ℕ) → mid ≡ before → CountsClash result mid now → CountsClash result before now
counted_from result before mid now same counts = subst (λ (count : ℕ). CountsClash result count now) same counts

-- a second clash
pub taken_again : (first second : Result Committed Refusal) (before mid now : ℕ) → was_taken first ≡ true → CountsClash first before mid → CountsClash second mid now
    → IfErr second (TakenClashes None before now)
taken_again first (Ok committed) before mid now was once counts = tt
taken_again (Err (refusals.Taken taken)) (Err (refusals.Taken path)) before mid now was once counts =
    let (version, at) = counts.1 in
    let first_rose : Rose before mid = once.0 in
    let second_rose : Rose mid now = counts.0 in
    let twice : RoseTwice before now = omega (arith, first_rose, second_rose) in
    subst (λ (place : Place). ClashesAt None place before now) (sym at) twice
taken_again (Ok committed) (Err (refusals.Taken path)) before mid now was once counts = absurd (true≢false (sym was))
taken_again (Err _) (Err (refusals.Taken path)) before mid now was once counts = absurd (true≢false (sym was))
taken_again first (Err _) before mid now was once counts = tt

-- no clash
pub never_taken : (result : Result Committed Refusal) (before now : ℕ) → was_taken result ≡ false → IfErr result (TakenClashes None before now)
never_taken (Ok committed) before now was = tt
never_taken (Err (refusals.Taken path)) before now was = absurd (true≢false was)
never_taken (Err _) before now was = tt

-- nor at a beginning
pub begins_untaken : (refusal : Refusal) (before now : ℕ) → BeginRefuses refusal → TakenClashes None before now refusal
begins_untaken (refusals.Taken path) before now may = absurd may
begins_untaken _ before now may = tt

-- what was counted from a later moment on, at which the count was as before
pub taken_from : (result : Result Committed Refusal) (before mid now : ℕ) → mid ≡ before → IfErr result (TakenClashes None mid now) → IfErr result (TakenClashes None before now)
taken_from result before mid now same taken = subst (λ (count : ℕ). IfErr result (TakenClashes None count now)) same taken

-- so far each path that is taken is a commit's own, which is tried twice
pub taken_twice : (result : Result Committed Refusal) (before now : ℕ) → IfErr result (TakenClashes None before now) → (path : List ℕ) → result ≡ Err (refusals.Taken path) → RoseTwice before now
taken_twice result before now taken path is = by (place_of path) (subst (λ (answer : Result Committed Refusal). IfErr answer (TakenClashes None before now)) is taken)
  where
    by : (place : Place) → ClashesAt None place before now → RoseTwice before now
    by (Commit_at version) clashes = clashes
    by (Staged version uuid) clashes = absurd clashes
    by _ clashes = absurd clashes

-- the path of a commit was taken
pub own_taken : (path : List ℕ) (version before now : ℕ) → path ≡ commit_path version → version < 2 ^ 63 → Rose before now → Rose before now × ((at : ℕ) × (place_of path ≡ Commit_at at))
own_taken path version before now is small rose = (rose, (version, ap place_of is ∙ commit_place version small))
