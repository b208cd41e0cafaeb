-- What `show` means, by the events of the store alone.
use Rattle.std.specs.Prelude.{ℕ, ℤ, ◌≡◌, List, Option, Result, Ok, Err}
use Rattle.dk_store.specs.Told.{Told}
use Rattle.dk_engine.specs.declared.refusal.Refusal.{Refusal}
use Rattle.dk_engine.specs.declared.limits.Limits.{Limits}
use Rattle.dk_snapshot.specs.declared.table.Snapshot.{Snapshot}
use Rattle.dk_lawful.specs.declared.segment.Choice.{Choice}
use Rattle.dk_snapshot.specs.Opens.{Opens}
use Rattle.dk_cli.specs.Shown.{shown}

-- the text of a snapshot
abbrev pub text_of_snapshot : Snapshot → List ℕ
text_of_snapshot snapshot = shown snapshot.version snapshot.state snapshot.cut

abbrev pub text_of_opened : Result Snapshot Refusal → Result (List ℕ) Refusal
text_of_opened (Ok snapshot) = Ok (text_of_snapshot snapshot)
text_of_opened (Err refusal) = Err refusal

-- What `show` may show over a store with these events under these limits, of the asked version or the latest one, under a choice, at a moment: the
-- text of what the version opens as, or its refusal. It is one, as what a version opens as is one.
abbrev pub ShowsAs : List Told → Limits → Option ℕ → Choice → ℤ → Result (List ℕ) Refusal → Type 0
ShowsAs events limits at choice now meant = (opens : Result Snapshot Refusal) × Opens events limits at choice now opens × (meant ≡ text_of_opened opens)
