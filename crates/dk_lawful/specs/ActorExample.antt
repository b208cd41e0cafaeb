-- Those who may be at work on the example, and commits with ids of transactions.
use Rattle.std.specs.Prelude.{ℕ, ℤ, pos, ◌≤ℤ◌, List, [], ◌∷◌, Some, None, codes}
use Rattle.dk_model.specs.declared.action.Action.{Action}
use Rattle.dk_model.specs.declared.action.Action.TheVariants as action
use Rattle.dk_store.specs.Told.{Told, Made}
use Rattle.dk_paths.specs.Names.{commit_path}
use Rattle.dk_paths.specs.Places.{Staged, place_path, sidecar_name}
use Rattle.dk_lawful.specs.History.{table_at}
use Rattle.dk_lawful.specs.Lawful.{Lawful}
use Rattle.dk_lawful.specs.Ids.{StandsOnce, AddOnce, AddNone}
use Rattle.dk_lawful.specs.Actors.{Snapshot, Transaction, Job, Actors, drawn, begun, Fits}
use Rattle.dk_lawful.specs.Example.{example}
use Rattle.dk_lawful.specs.ManagedExample.{plain_file, founded}

-- ---- a transaction and a job

abbrev pub opened_snapshot : Snapshot
opened_snapshot = record { version = 1; state = table_at example 1 }

-- a transaction that began at the last version, and a checkpoint of it that has recorded one sidecar
abbrev pub begun_there : ℕ → Transaction
begun_there base = begun (drawn base 0) (Some opened_snapshot)

abbrev pub job_there : ℕ → Job
job_there base = record { version = 1; state = table_at example 1; cut = pos 0; count = 2; sidecars = sidecar_name (drawn base 1) ∷ [] }

abbrev pub at_work : ℕ → Actors
at_work base = record { base = base; count = 2; transactions = begun_there base ∷ []; jobs = job_there base ∷ [] }

-- both fit, whatever ids are drawn
abbrev pub BothFit : Type 0
BothFit = (base : ℕ) (horizon : ℤ) → pos 0 ≤ℤ horizon → Fits example horizon (at_work base)

-- ---- an id that comes twice

unfoldable pub signed_text : List ℕ
signed_text = codes "{\"commitInfo\":{\"txnId\":\"i\"}}\n"

abbrev pub signed_actions : List Action
signed_actions = action.Info (record { in_commit_timestamp = None; txn_id = Some (codes "i") }) ∷ []

abbrev pub signing : Told
signing = Made (commit_path 2) signed_text (pos 2)

abbrev pub signing_again : Told
signing_again = Made (commit_path 3) signed_text (pos 3)

-- The rules of a commit know nothing of ids, so a log may be lawful whose commits have one twice; that others add none, or each adds it
-- only to a history without it, is the premise that rules this out.
abbrev pub SignedTwiceIsLawful : Type 0
SignedTwiceIsLawful = (horizon : ℤ) → Lawful (signing_again ∷ (signing ∷ example)) horizon

abbrev pub SignedTwiceIsNotOnce : Type 0
SignedTwiceIsNotOnce = StandsOnce (signing_again ∷ (signing ∷ example)) (codes "i") → ⊥

abbrev pub AddsAgain : Type 0
AddsAgain = AddOnce (signing_again ∷ (signing ∷ [])) example (codes "i") → ⊥

abbrev pub AddsOne : Type 0
AddsOne = AddNone (signing ∷ []) example (codes "i") → ⊥

-- ---- a transaction with a staged commit of its own

-- of the managed table, as its version 1: the file, under the transaction's id
unfoldable pub own_text : List ℕ
own_text =
    codes "{\"commitInfo\":{\"inCommitTimestamp\":6,\"txnId\":\"00000000-0000-0000-0000-000000000007\"}}\n{\"add\":{\"modificationTime\":5,\"path\":\"a\",\"size\":1}}\n"

abbrev pub own_actions : List Action
own_actions = action.Info (record { in_commit_timestamp = Some (pos 6); txn_id = Some (codes "00000000-0000-0000-0000-000000000007") }) ∷ plain_file (codes "a") ∷ []

abbrev pub own_staged : List Told
own_staged = Made (place_path (Staged 1 8)) own_text (pos 1) ∷ founded

abbrev pub opened_managed : Snapshot
opened_managed = record { version = 0; state = table_at founded 0 }

-- it drew its id and that of its staged commit, which it made at the moment 6
abbrev pub with_own : Transaction
with_own = record { id = 7; snapshot = Some opened_managed; put = plain_file (codes "a") ∷ []; own = Some (record { version = 1; uuid = 8 }); answered = None }

abbrev pub staging_actors : Actors
staging_actors = record { base = 7; count = 2; transactions = with_own ∷ []; jobs = [] }

abbrev pub OwnIsLawful : Type 0
OwnIsLawful = (horizon : ℤ) → Lawful own_staged horizon

abbrev pub OwnFitsThere : Type 0
OwnFitsThere = (horizon : ℤ) → Fits own_staged horizon staging_actors
