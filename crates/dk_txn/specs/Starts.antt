-- What a commit may come after, by what the latest version may open as: a relation with one value, since what a version opens as is one (Delta
-- Lake's PROTOCOL.md, "Delta Log Entries").
use Rattle.std.specs.Prelude.{ℕ, ℤ, ◌≡◌, ◌==◌, Bool, true, false, List, Option, Some, None, Result, Ok, Err}
use Rattle.dk_store.specs.Told.{Told}
use Rattle.dk_engine.specs.declared.limits.Limits.{Limits}
use Rattle.dk_engine.specs.declared.limits.Which.TheVariants as which
use Rattle.dk_engine.specs.declared.refusal.Refusal.{Refusal}
use Rattle.dk_engine.specs.declared.refusal.Refusal.TheVariants as refusals
use Rattle.dk_listing.specs.OfEvents.{latest}
use Rattle.dk_snapshot.specs.declared.table.Snapshot.{Snapshot}
use Rattle.dk_snapshot.specs.Opening.{usual_choice}
use Rattle.dk_snapshot.specs.Opens.{Opens}
use Rattle.dk_txn.specs.declared.start.Start.{Start}
use Rattle.dk_txn.specs.Attempt.{last_version, start_of, after_snapshot}

-- nothing comes after the greatest version that there can be; else it comes after what the latest may open as
abbrev pub StartsOpened : List Told → Limits → ℤ → Bool → Result Start Refusal → Type 0
StartsOpened events limits now true result = result ≡ Err (refusals.Limit which.Version last_version)
StartsOpened events limits now false result = (snapshot : Result Snapshot Refusal) × Opens events limits None usual_choice now snapshot × (result ≡ after_snapshot snapshot)

-- by the latest version, or before all of an empty log
abbrev pub StartsAfter : List Told → Limits → ℤ → Option ℕ → Result Start Refusal → Type 0
StartsAfter events limits now None result = result ≡ Ok (start_of None)
StartsAfter events limits now (Some last) result = StartsOpened events limits now (last == last_version) result

abbrev pub StartsAs : List Told → Limits → ℤ → Result Start Refusal → Type 0
StartsAs events limits now result = StartsAfter events limits now (latest events) result

-- ---- the laws

-- a commit may come after something, or is refused so, and after one thing alone
abbrev pub StartsAsSome : Type 0
StartsAsSome = (events : List Told) (limits : Limits) (now : ℤ) → (result : Result Start Refusal) × StartsAs events limits now result

abbrev pub StartsAsOne : Type 0
StartsAsOne = (events : List Told) (limits : Limits) (now : ℤ) (one other : Result Start Refusal) → StartsAs events limits now one → StartsAs events limits now other → one ≡ other
