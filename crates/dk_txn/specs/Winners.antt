-- The winners: the commits that came after a transaction's snapshot (Delta Lake's PROTOCOL.md, "Delta Log Entries", "Commit Provenance
-- Information"), by the events of the store alone.
use Rattle.std.specs.Prelude.{ℕ, ◌+◌, ◌≡◌, false, List, [], ◌∷◌, Option, None, Result, Ok, Err, if◌then◌else◌}
use Rattle.std.specs.List.{list_any}
use Rattle.dk_store.specs.Told.{Told}
use Rattle.dk_store.specs.Standings.{standing}
use Rattle.dk_conflicts.specs.declared.reads.Reads.{Reads}
use Rattle.dk_conflicts.specs.Conflicts.{first_in_the_way, kind_of}
use Rattle.dk_model.specs.declared.action.Action.{Action}
use Rattle.dk_model.specs.declared.kind.Kind.{Kind}
use Rattle.dk_model.specs.declared.state.TableState.{TableState}
use Rattle.dk_model.specs.State.{steps}
use Rattle.dk_paths.specs.Places.{Place}
use Rattle.dk_engine.specs.declared.refusal.Refusal.{Refusal}
use Rattle.dk_engine.specs.declared.refusal.Refusal.TheVariants as refusals
use Rattle.dk_engine.specs.Answers.{Refuses}
use Rattle.dk_lawful.specs.declared.segment.Step.{Step}
use Rattle.dk_lawful.specs.Segments.{commit_place}
use Rattle.dk_lawful.specs.Ids.{says}
use Rattle.dk_listing.specs.OfEvents.{stands_at}
use Rattle.dk_segment.specs.Walked.{walked}
use Rattle.dk_snapshot.specs.Steps.{AreSized, commit_at_path, step_path}
use Rattle.dk_txn.specs.declared.winners.Winners.{Winners}

-- ---- where they are read from

-- the published commit of a version where it stands, else the staged one where that stands ratified and is there
abbrev pub commit_at : List Told → ℕ → Option Place
commit_at events = commit_place (stands_at events) (standing events) false

-- from where the commits of so many versions are read, or the first with no commit
abbrev pub sources : List Told → ℕ → ℕ → Result (List Step) Refusal
sources events first count = walked (commit_at events) first count

-- ---- what they mean

-- what came since the snapshot: the transaction's own commit, as this version, or the commits of others, the oldest first
pub data Since : Type 0 where
  Own : ℕ → Since
  Others : List (List Action) → Since

-- a commit of another, before the later ones
abbrev pub before_later_commits : List Action → Result Since Refusal → Result Since Refusal
before_later_commits commit (Ok (Own version)) = Ok (Own version)
before_later_commits commit (Ok (Others later)) = Ok (Others (commit ∷ later))
before_later_commits commit (Err refusal) = Err refusal

-- one commit, and what comes later; the own commit, which says the id, ends the reading, and so does a refusal
abbrev pub winner : List ℕ → ℕ → Result (List Action) Refusal → Result Since Refusal → Result Since Refusal
winner id version (Ok commit) later = if list_any (says id) commit then Ok (Own version) else before_later_commits commit later
winner id version (Err refusal) later = Err refusal

-- the commits of these steps, the first of which is of this version
abbrev pub since_steps : List Told → ℕ → List ℕ → ℕ → List Step → Result Since Refusal
since_steps events limit id version [] = Ok (Others [])
since_steps events limit id version (step ∷ steps) = winner id version (commit_at_path events limit (step_path step)) (since_steps events limit id (version + 1) steps)

abbrev pub since_sources : List Told → ℕ → List ℕ → ℕ → Result (List Step) Refusal → Result Since Refusal
since_sources events limit id first (Ok steps) = since_steps events limit id first steps
since_sources events limit id first (Err refusal) = Err refusal

-- a winner that is missing is gone
abbrev pub gone : Refusal → Refusal
gone (refusals.Missing path) = refusals.WinnersGone path
gone refusal = refusal

abbrev pub or_gone : {X : Type 0} → Result X Refusal → Result X Refusal
or_gone (Ok x) = Ok x
or_gone (Err refusal) = Err (gone refusal)

-- what came in so many versions from the first on
abbrev pub since : List Told → ℕ → List ℕ → ℕ → ℕ → Result Since Refusal
since events limit id first count = or_gone (since_sources events limit id first (sources events first count))

-- ---- which is in the way

-- How a winner is in the way that was committed after this state. The kinds that there are look at the winner alone; what a feature adds that was in
-- force there is to be said here.
abbrev pub kind_after : Reads → List Action → TableState → List Action → Option Kind
kind_after reads own before winner = kind_of reads own winner

-- the first of the winners that is in the way, and how it is, each by the state before it; they are counted from a version on
abbrev pub conflict_after : Reads → List Action → TableState → ℕ → List (List Action) → Option (ℕ × Kind)
conflict_after reads own before version [] = None
conflict_after reads own before version (winner ∷ later) =
    first_in_the_way version (kind_after reads own before winner) (conflict_after reads own (steps before winner) (version + 1) later)

-- ---- what is found of them

-- they are the sources from that version on, with the sizes of what stands; or a refusal that fits
abbrev pub AreWinners : List Told → ℕ → ℕ → Result Winners Refusal → Type 0
AreWinners events first count (Ok winners) = (sources events first count ≡ Ok winners.steps.items) × AreSized events winners.steps.items winners.sizes.items
AreWinners events first count (Err refusal) = Refuses refusal (sources events first count)
