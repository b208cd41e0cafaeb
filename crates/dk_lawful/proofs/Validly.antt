-- A permitted event leaves the history, or adds one commit that was valid; so each version of a table has a protocol and metadata.
use Rattle.std.proofs.Common.{◌≡◌, ℕ, ℤ, ◌⊎◌, inl, inr, List, [], ◌∷◌, ◌++◌, refl, sym, ap, subst, arith}
use Rattle.dk_store.specs.Told.{Told, Made, Over, Deleted, Ratified, Forgotten}
use Rattle.dk_paths.specs.Places.{Place, Commit_at, Classic, Part, V2, Compacted, Hint, Sidecar, Staged, Other, place_of}
use Rattle.dk_lawful.specs.History.{RatifiedCommit, by_file, by_catalogue, after_made, history, commits_of}
use Rattle.dk_lawful.specs.Rules.{IsValidNext}
use Rattle.dk_lawful.specs.Permits.{Permits, MayMake}
use Rattle.dk_lawful.specs.Laws.{TableIsWhole}
use Rattle.dk_lawful.proofs.Heads.{AllWhole, one_more}
use Rattle.dk_lawful.proofs.Sound.{Sound}
use Rattle.dk_lawful.proofs.SoundMade.{adds_itself, backfill_adds}
use Rattle.dk_lawful.proofs.SoundOthers.{ratifies_itself, lawful_is_sound}

abbrev pub GoesOnValidly : List Told → Told → Type 0
GoesOnValidly events event = (history (event ∷ events) ≡ history events)
    ⊎ ((commit : RatifiedCommit) × (history (event ∷ events) ≡ history events ++ commit ∷ []) × IsValidNext (commits_of (history events)) commit.actions)

made_validly : (events : List Told) (path bytes : List ℕ) (stamp horizon : ℤ) (place : Place) → place_of path ≡ place → Sound events horizon → MayMake events place bytes horizon
    → GoesOnValidly events (Made path bytes stamp)
made_validly events path bytes stamp horizon (Commit_at version) is sound (inl may) =
    inr (by_file may.0, adds_itself events path bytes stamp version is may, may.2.valid)
made_validly events path bytes stamp horizon (Commit_at version) is sound (inr may) = inl (backfill_adds events path bytes stamp horizon version is may sound)
made_validly events path bytes stamp horizon (Staged version id) is sound may = inl (ap (λ (place : Place). after_made (history events) place bytes) is)
made_validly events path bytes stamp horizon (Classic version) is sound may = inl (ap (λ (place : Place). after_made (history events) place bytes) is)
made_validly events path bytes stamp horizon (Part version part parts) is sound may = inl (ap (λ (place : Place). after_made (history events) place bytes) is)
made_validly events path bytes stamp horizon (V2 version id json) is sound may = inl (ap (λ (place : Place). after_made (history events) place bytes) is)
made_validly events path bytes stamp horizon (Compacted first last) is sound may = inl (ap (λ (place : Place). after_made (history events) place bytes) is)
made_validly events path bytes stamp horizon (Sidecar name) is sound may = inl (ap (λ (place : Place). after_made (history events) place bytes) is)
made_validly events path bytes stamp horizon Hint is sound may = inl (ap (λ (place : Place). after_made (history events) place bytes) is)
made_validly events path bytes stamp horizon (Other other) is sound may = inl (ap (λ (place : Place). after_made (history events) place bytes) is)

pub goes_on_validly : (events : List Told) (event : Told) (horizon : ℤ) → Sound events horizon → Permits events event horizon → GoesOnValidly events event
goes_on_validly events (Made path bytes stamp) horizon sound may = made_validly events path bytes stamp horizon (place_of path) refl sound may.1
goes_on_validly events (Over path bytes stamp) horizon sound may = inl refl
goes_on_validly events (Deleted path) horizon sound may = inl refl
goes_on_validly events (Ratified version name) horizon sound may =
    inr (by_catalogue may.actions, ratifies_itself events version name may, may.valid)
goes_on_validly events (Forgotten upto) horizon sound may = inl refl

goes_on_whole : (event : Told) (events : List Told) → AllWhole (history events) → GoesOnValidly events event → AllWhole (history (event ∷ events))
goes_on_whole event events all (inl same) = subst AllWhole (sym same) all
goes_on_whole event events all (inr more) = subst AllWhole (sym more.1) (one_more (history events) more.0 all more.2)

pub table_is_whole : TableIsWhole
table_is_whole [] horizon lawful = λ version below. absurd (omega arith)
table_is_whole (event ∷ events) horizon lawful =
    goes_on_whole event events (table_is_whole events horizon lawful.1) (goes_on_validly events event horizon (lawful_is_sound events horizon lawful.1) lawful.0)
