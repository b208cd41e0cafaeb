-- A state as its canonical actions (Delta Lake's PROTOCOL.md, "Action Reconciliation", "Checkpoints"): the protocol and the metadata, then
-- the files, the tombstones that pass a test, the applications and the domains. Those of one kind are in the byte order of their keys.
use Rattle.std.specs.Prelude.{ℕ, ℤ, Bool, false, List, ◌++◌, map, filter, int_lt}
use Rattle.std.specs.Option.{option_to_list}
use Rattle.std.specs.FinMap.{entries}
use Rattle.dk_model.specs.declared.action.AddFile.{AddFile}
use Rattle.dk_model.specs.declared.action.Action.{Action}
use Rattle.dk_model.specs.declared.action.Action.TheVariants as action
use Rattle.dk_model.specs.declared.state.Application.{Application}
use Rattle.dk_model.specs.declared.state.TableState.{TableState}

-- ---- one entry of a state as an action

abbrev pub live_file : List ℕ × AddFile → Action
live_file file = action.Add file.1

abbrev pub removal : List ℕ × ℤ → Action
removal tombstone = action.Remove (record { path = tombstone.0; deletion_timestamp = tombstone.1; data_change = false })

abbrev pub recorded : List ℕ × Application → Action
recorded application = action.Txn (record { app_id = application.0; version = application.1.version; last_updated = application.1.last_updated })

abbrev pub configured : List ℕ × List ℕ → Action
configured domain = action.Domain (record { domain = domain.0; configuration = domain.1; removed = false })

-- ---- those of one kind

abbrev pub heads : TableState → List Action
heads state = map (λ p. action.Protocol p) (option_to_list state.protocol) ++ map (λ m. action.Metadata m) (option_to_list state.metadata)

-- some files, in the order in which they are given
abbrev pub adds : List (List ℕ × AddFile) → List Action
adds files = map live_file files

-- a test of tombstones: one is kept that is later than the cut
abbrev pub is_later : ℤ → List ℕ × ℤ → Bool
is_later cut tombstone = int_lt cut tombstone.1

-- the tombstones that pass the test
abbrev pub removals : TableState → (List ℕ × ℤ → Bool) → List Action
removals state keeps = map removal (filter keeps (entries state.tombstones))

-- the applications and the domains
abbrev pub named_actions : TableState → List Action
named_actions state = map recorded (entries state.applications) ++ map configured (entries state.domains)

-- ---- all

-- all, of whose files some
abbrev pub canonical_with : TableState → (List ℕ × ℤ → Bool) → List (List ℕ × AddFile) → List Action
canonical_with state keeps files = heads state ++ (adds files ++ (removals state keeps ++ named_actions state))

abbrev pub canonical : TableState → (List ℕ × ℤ → Bool) → List Action
canonical state keeps = canonical_with state keeps (entries state.files)
