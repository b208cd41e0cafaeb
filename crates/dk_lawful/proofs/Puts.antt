-- What a put of the next commit does to the log and its history.
use Rattle.std.proofs.Common.{◌≡◌, ℕ, ℤ, ◌<◌, ◌^◌, List, [], ◌∷◌, Option, Some, None, Result, Ok, Err, inl, inr, refl, sym, ap, subst, ◌∙◌, true≢false}
use Rattle.std.specs.Prelude.{IsNone, IfSome}
use Rattle.dk_model.specs.declared.action.Action.{Action}
use Rattle.dk_model.specs.CommitText.{commit_of}
use Rattle.dk_store.specs.declared.event.Put.{Put}
use Rattle.dk_store.specs.declared.event.Put.TheVariants as puts
use Rattle.dk_store.specs.declared.event.StoreError.{StoreError}
use Rattle.dk_store.specs.declared.event.StoreError.TheVariants as errors
use Rattle.dk_store.specs.Told.{Told, Made}
use Rattle.dk_store.specs.Objects.{object}
use Rattle.dk_store.specs.Writing.{PutsNew}
use Rattle.dk_paths.specs.Names.{commit_path}
use Rattle.dk_paths.specs.Places.{Place}
use Rattle.dk_lawful.specs.History.{history}
use Rattle.dk_lawful.specs.Permits.{IsNextCommit, MayMake}
use Rattle.dk_lawful.specs.Lawful.{Lawful}
use Rattle.dk_lawful.specs.Kept.{IfBoth, StaysLawful, KeepsLawful, HistoryAfterPut, HasOneMore}
use Rattle.dk_lawful.specs.Laws.{PutKeepsLawful, PutAddsCommit, PutLeavesFloor, TakenAddsNothing}
use Rattle.dk_lawful.specs.Floor.{FromFloor}
use Rattle.dk_lawful.proofs.Standing.{commit_place}
use Rattle.dk_lawful.proofs.SoundMade.{adds_itself}

-- where the commit may come next on a lawful log
abbrev pub ComesNext : ℕ → List Action → List Told → Type 0
ComesNext version actions events = (horizon : ℤ) → Lawful events horizon → IsNextCommit events version actions

module _ (version : ℕ) (bytes : List ℕ) (actions : List Action) (small : version < 2 ^ 63) (means : commit_of bytes ≡ Some actions) where
  unchanged : (events later : List Told) → later ≡ events → StaysLawful events later
  unchanged events later is = record { newer = []; is = is; lawful = λ horizon lawful. subst (λ es. Lawful es horizon) (sym is) lawful }

  made : (events later : List Told) (stamp : ℤ) → ComesNext version actions events → IsNone (object events (commit_path version))
      → later ≡ Made (commit_path version) bytes stamp ∷ events → StaysLawful events later
  made events later stamp next free is = record {
    newer = Made (commit_path version) bytes stamp ∷ [];
    is = is;
    lawful = λ horizon lawful. subst (λ es. Lawful es horizon) (sym is)
        ((free, subst (λ (place : Place). MayMake events place bytes horizon) (sym (commit_place version small)) (inl (actions, means, next horizon lawful))), lawful);
  }

  one_more : (events later : List Told) (stamp horizon : ℤ) → ComesNext version actions events → later ≡ Made (commit_path version) bytes stamp ∷ events
      → Lawful events horizon → HasOneMore actions events later
  one_more events later stamp horizon next is lawful =
      ap history is ∙ adds_itself events (commit_path version) bytes stamp version (commit_place version small) (actions, means, next horizon lawful)

  same_some : (events later : List Told) → Some later ≡ Some events → later ≡ events
  same_some events later is = cc

  keeps : (events later : List Told) (result : Result Put StoreError) → ComesNext version actions events
      → PutsNew (commit_path version) bytes (Some events) result (Some later) → StaysLawful events later
  keeps events later (Ok puts.Made) next put = made events later put.1.stamp next put.0 (same_some (Made (commit_path version) bytes put.1.stamp ∷ events) later put.1.is)
  keeps events later (Ok puts.Exists) next put = unchanged events later (same_some events later put.1)
  keeps events later (Err errors.Failed) next (inl put) = unchanged events later (same_some events later put)
  keeps events later (Err errors.Failed) next (inr put) = made events later put.1.stamp next put.0 (same_some (Made (commit_path version) bytes put.1.stamp ∷ events) later put.1.is)
  keeps events later (Err errors.OutOfMemory) next put = unchanged events later (same_some events later put)

  says : (events later : List Told) (result : Result Put StoreError) → ComesNext version actions events
      → PutsNew (commit_path version) bytes (Some events) result (Some later) → (horizon : ℤ) → Lawful events horizon → HistoryAfterPut actions result events later
  says events later (Ok puts.Made) next put horizon lawful =
      one_more events later put.1.stamp horizon next (same_some (Made (commit_path version) bytes put.1.stamp ∷ events) later put.1.is) lawful
  says events later (Ok puts.Exists) next put horizon lawful = ap history (same_some events later put.1)
  says events later (Err errors.Failed) next (inl put) horizon lawful = inl (ap history (same_some events later put))
  says events later (Err errors.Failed) next (inr put) horizon lawful =
      inr (one_more events later put.1.stamp horizon next (same_some (Made (commit_path version) bytes put.1.stamp ∷ events) later put.1.is) lawful)
  says events later (Err errors.OutOfMemory) next put horizon lawful = ap history (same_some events later put)

-- a store tells its events after a put where it told them before, and only there
pub both_told : (path bytes : List ℕ) (fact : List Told → List Told → Type 0) (old new : Option (List Told)) (result : Result Put StoreError)
    → PutsNew path bytes old result new
    → ((events later : List Told) → old ≡ Some events → new ≡ Some later → fact events later) → IfBoth old new fact
both_told path bytes fact None None result put holds = tt
both_told path bytes fact (Some events) (Some later) result put holds = holds events later refl refl
both_told path bytes fact None (Some later) result put holds = untold result put
  where
    untold : (result : Result Put StoreError) → PutsNew path bytes None result (Some later) → ⊥
    untold (Ok puts.Made) put = let no : ◌≡◌ {A = Option (List Told)} (Some later) None = put.1.is in cc
    untold (Ok puts.Exists) put = let no : ◌≡◌ {A = Option (List Told)} (Some later) None = put.1 in cc
    untold (Err errors.Failed) (inl put) = let no : ◌≡◌ {A = Option (List Told)} (Some later) None = put in cc
    untold (Err errors.Failed) (inr put) = let no : ◌≡◌ {A = Option (List Told)} (Some later) None = put.1.is in cc
    untold (Err errors.OutOfMemory) put = let no : ◌≡◌ {A = Option (List Told)} (Some later) None = put in cc
both_told path bytes fact (Some events) None result put holds = untold result put
  where
    untold : (result : Result Put StoreError) → PutsNew path bytes (Some events) result None → ⊥
    untold (Ok puts.Made) put = let no : ◌≡◌ {A = Option (List Told)} None (Some (Made path bytes put.1.stamp ∷ events)) = put.1.is in cc
    untold (Ok puts.Exists) put = let no : ◌≡◌ {A = Option (List Told)} None (Some events) = put.1 in cc
    untold (Err errors.Failed) (inl put) = let no : ◌≡◌ {A = Option (List Told)} None (Some events) = put in cc
    untold (Err errors.Failed) (inr put) = let no : ◌≡◌ {A = Option (List Told)} None (Some (Made path bytes put.1.stamp ∷ events)) = put.1.is in cc
    untold (Err errors.OutOfMemory) put = let no : ◌≡◌ {A = Option (List Told)} None (Some events) = put in cc

keeps_both : (version : ℕ) (bytes : List ℕ) (actions : List Action) (old new : Option (List Told)) (result : Result Put StoreError) → version < 2 ^ 63
    → commit_of bytes ≡ Some actions → IfSome old (ComesNext version actions) → PutsNew (commit_path version) bytes old result new → KeepsLawful old new
keeps_both version bytes actions old new result small means next put =
    both_told (commit_path version) bytes StaysLawful old new result put
    (λ events later is is_later. keeps version bytes actions small means events later result (subst (λ o. IfSome o (ComesNext version actions)) is next)
    (subst (λ o. PutsNew (commit_path version) bytes o result (Some later)) is (subst (λ n. PutsNew (commit_path version) bytes old result n) is_later put)))

pub put_keeps_lawful : PutKeepsLawful
put_keeps_lawful version path bytes actions old new result is small means next put =
    keeps_both version bytes actions old new result small means next (subst (λ p. PutsNew p bytes old result new) is put)

-- the history after the put, on a lawful log
abbrev pub SaysHistory : List Action → Result Put StoreError → List Told → List Told → Type 0
SaysHistory actions result events later = (horizon : ℤ) → Lawful events horizon → HistoryAfterPut actions result events later

says_both : (version : ℕ) (bytes : List ℕ) (actions : List Action) (old new : Option (List Told)) (result : Result Put StoreError) → version < 2 ^ 63
    → commit_of bytes ≡ Some actions → IfSome old (ComesNext version actions) → PutsNew (commit_path version) bytes old result new → IfBoth old new (SaysHistory actions result)
says_both version bytes actions old new result small means next put =
    both_told (commit_path version) bytes (SaysHistory actions result) old new result put
    (λ events later is is_later. says version bytes actions small means events later result (subst (λ o. IfSome o (ComesNext version actions)) is next)
    (subst (λ o. PutsNew (commit_path version) bytes o result (Some later)) is (subst (λ n. PutsNew (commit_path version) bytes old result n) is_later put)))

pub put_adds_commit : PutAddsCommit
put_adds_commit version path bytes actions old new result is small means next put =
    says_both version bytes actions old new result small means next (subst (λ p. PutsNew p bytes old result new) is put)

pub taken_adds_nothing : TakenAddsNothing
taken_adds_nothing path bytes events new (Ok puts.Made) taken put = absurd (true≢false (sym taken ∙ put.0))
taken_adds_nothing path bytes events new (Ok puts.Exists) taken put = put.1
taken_adds_nothing path bytes events new (Err errors.Failed) taken (inl put) = put
taken_adds_nothing path bytes events new (Err errors.Failed) taken (inr put) = absurd (true≢false (sym taken ∙ put.0))
taken_adds_nothing path bytes events new (Err errors.OutOfMemory) taken put = put

-- what a put adds leaves the floor
made_floor : (path bytes : List ℕ) (stamp : ℤ) (events later : List Told) (version : ℕ) → Some later ≡ Some (Made path bytes stamp ∷ events)
    → FromFloor events version → FromFloor later version
made_floor path bytes stamp events later version is floor =
    let same : later ≡ Made path bytes stamp ∷ events = cc in
    let now : FromFloor (Made path bytes stamp ∷ events) version = floor in
    subst (λ es. FromFloor es version) (sym same) now

same_floor : (events later : List Told) (version : ℕ) → Some later ≡ Some events → FromFloor events version → FromFloor later version
same_floor events later version is floor = let same : later ≡ events = cc in subst (λ es. FromFloor es version) (sym same) floor

floor_on : (path bytes : List ℕ) (events later : List Told) (result : Result Put StoreError) → PutsNew path bytes (Some events) result (Some later)
    → (version : ℕ) → FromFloor events version → FromFloor later version
floor_on path bytes events later (Ok puts.Made) put version floor = made_floor path bytes put.1.stamp events later version put.1.is floor
floor_on path bytes events later (Ok puts.Exists) put version floor = same_floor events later version put.1 floor
floor_on path bytes events later (Err errors.Failed) (inl put) version floor = same_floor events later version put floor
floor_on path bytes events later (Err errors.Failed) (inr put) version floor = made_floor path bytes put.1.stamp events later version put.1.is floor
floor_on path bytes events later (Err errors.OutOfMemory) put version floor = same_floor events later version put floor

pub put_leaves_floor : PutLeavesFloor
put_leaves_floor path bytes old new result put =
    both_told path bytes (λ events later. (version : ℕ) → FromFloor events version → FromFloor later version) old new result put
    (λ events later is is_later. floor_on path bytes events later result
    (subst (λ o. PutsNew path bytes o result (Some later)) is (subst (λ n. PutsNew path bytes old result n) is_later put)))
