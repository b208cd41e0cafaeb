-- Above the latest version no commit stands.
use Rattle.std.proofs.Common.{◌≡◌, ℕ, ◌<◌, ◌≤◌, ◌^◌, Bool, true, false, List, refl, ap, sym, subst, ◌∙◌, true≢false}
use Rattle.std.specs.Prelude.{Option, Some, None, IsNone, ◌||◌, is_some}
use Rattle.dk_store.specs.Told.{Told}
use Rattle.dk_store.specs.Objects.{object}
use Rattle.dk_store.specs.Standings.{standing}
use Rattle.dk_paths.specs.Names.{commit_path}
use Rattle.dk_paths.specs.Places.{Commit_at}
use Rattle.dk_listing.specs.OfEvents.{stands_at, latest}
use Rattle.dk_snapshot.specs.LatestVersion.{log_names, lists_complete, is_version, IsLatest}
use Rattle.dk_snapshot.proofs.LatestVersion.{latest_is_greatest}

-- there is a latest version, and it is at least this one
abbrev pub AtMost : ℕ → Option ℕ → Type 0
AtMost version None = ⊥
AtMost version (Some last) = version ≤ last

greatest : (events : List Told) (last : Option ℕ) (version : ℕ) → IsLatest events last → version < 2 ^ 63 → is_version events version ≡ true → AtMost version last
greatest events None version none small is = true≢false (sym is ∙ none version small)
greatest events (Some last) version most small is = most.1 version small is

pub free_above : (events : List Told) (last : Option ℕ) (version : ℕ) → latest events ≡ last → version < 2 ^ 63 → (AtMost version last → ⊥) → IsNone (object events (commit_path version))
free_above events last version top small above = by (stands_at events (Commit_at version)) refl
  where
    by : (there : Bool) → stands_at events (Commit_at version) ≡ there → IsNone (object events (commit_path version))
    by true there =
        let is : is_version events version ≡ true = ap (λ (b : Bool). (b || lists_complete (log_names events) version) || is_some (standing events version)) there in
        absurd (above (greatest events last version (subst (IsLatest events) top (latest_is_greatest events)) small is))
    by false none = none
