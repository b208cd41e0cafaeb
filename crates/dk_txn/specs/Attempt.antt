-- What a commit over a log is to write, or why it is refused (Delta Lake's PROTOCOL.md, "Delta Log Entries", "Requirements for Writers").
use Rattle.std.specs.Prelude.{ℕ, ℤ, ◌+◌, ◌-◌, ◌^◌, ◌==◌, List, ◌∷◌, ◌++◌, Option, Some, None, Result, Ok, Err, length, if◌then◌else◌}
use Rattle.std.specs.Option.{option_or}
use Rattle.dk_store.specs.Told.{Told}
use Rattle.dk_model.specs.declared.action.Action.{Action}
use Rattle.dk_model.specs.declared.action.AddFile.{AddFile}
use Rattle.dk_model.specs.declared.action.Protocol.{Protocol}
use Rattle.dk_model.specs.declared.action.Metadata.{Metadata}
use Rattle.dk_model.specs.declared.state.TableState.{TableState}
use Rattle.dk_model.specs.Texts.{ByText}
use Rattle.dk_model.specs.State.{empty_state, steps}
use Rattle.dk_model.specs.ReadBack.{own_info}
use Rattle.dk_model.specs.Written.{own_info_line, text_of}
use Rattle.dk_paths.specs.Names.{commit_path}
use Rattle.dk_paths.specs.Numbers.{id_text}
use Rattle.dk_paths.specs.Places.{Staged, place_path}
use Rattle.dk_engine.specs.declared.limits.Limits.{Limits}
use Rattle.dk_engine.specs.declared.limits.Which.TheVariants as which
use Rattle.dk_engine.specs.declared.refusal.Refusal.{Refusal}
use Rattle.dk_engine.specs.declared.refusal.Refusal.TheVariants as refusals
use Rattle.dk_features.specs.Support.{unwritten_name}
use Rattle.dk_lawful.specs.History.{Way, By_file, By_catalogue}
use Rattle.dk_lawful.specs.Managed.{is_managed}
use Rattle.dk_lawful.specs.SoFar.{awaited, first_broken_so_far}
use Rattle.dk_listing.specs.OfEvents.{latest}
use Rattle.dk_snapshot.specs.declared.table.Snapshot.{Snapshot}
use Rattle.dk_snapshot.specs.Opening.{opened, usual_choice}
use Rattle.dk_snapshot.specs.Steps.{fits, if_fits}
use Rattle.dk_snapshot.specs.Support.{unreadable}
use Rattle.dk_txn.specs.declared.start.Start.{Start}

-- ---- what a commit comes after

-- the greatest version that there can be
abbrev pub last_version : ℕ
last_version = 2 ^ 63 - 1

-- after a snapshot, or before all
abbrev pub start_of : Option Snapshot → Start
start_of None = record { version = 0; before = empty_state }
start_of (Some snapshot) = record { version = snapshot.version + 1; before = snapshot.state }

abbrev pub after_snapshot : Result Snapshot Refusal → Result Start Refusal
after_snapshot (Ok snapshot) = Ok (start_of (Some snapshot))
after_snapshot (Err refusal) = Err refusal

-- by the latest version: nothing, or that version, and nothing comes after the greatest that there can be
abbrev pub start_after : List Told → Limits → ℤ → Option ℕ → Result Start Refusal
start_after events limits now None = Ok (start_of None)
start_after events limits now (Some last) =
    if last == last_version then Err (refusals.Limit which.Version last_version) else after_snapshot (opened events limits None usual_choice now)

abbrev pub start : List Told → Limits → ℤ → Result Start Refusal
start events limits now = start_after events limits now (latest events)

-- ---- whether it may come there

-- what of a table isn't supported, by its name: what isn't read, then what isn't written; a table that hasn't begun asks for nothing
abbrev pub unsupported_of : Option Protocol → Option Metadata → ByText AddFile → Option (List ℕ)
unsupported_of (Some p) (Some m) files = option_or (unreadable p files) (unwritten_name p m)
unsupported_of protocol metadata files = None

abbrev pub unsupported : TableState → Option (List ℕ)
unsupported before = unsupported_of before.protocol before.metadata before.files

-- and then what the table, as the commit leaves it, asks for that isn't written so far
abbrev pub unbuilt : TableState → List Action → Option (List ℕ)
unbuilt before actions = option_or (unsupported before) (awaited (steps before actions).protocol)

-- support comes before the rules
abbrev pub verdict : Option (List ℕ) → Option ℕ → Result (Unit {0}) Refusal
verdict (Some name) broken = Err (refusals.Unsupported name)
verdict None (Some rule) = Err (refusals.Invalid rule)
verdict None None = Ok tt

-- ---- where it is written

-- the way by which a table goes on: its catalogue ratifies staged commits where one manages it; else commits are files of their own
abbrev pub way_of : TableState → Way
way_of before = if is_managed before then By_catalogue else By_file

-- the path that the commit of a version is written to: by file its own; by catalogue a staged one, with the id that was drawn for it
abbrev pub written_path : Way → ℕ → ℕ → List ℕ
written_path By_file version drawn = commit_path version
written_path By_catalogue version drawn = place_path (Staged version drawn)

-- ---- what it writes

-- the transaction's own line of that id, and then the actions
abbrev pub own_commit : ℕ → List Action → List Action
own_commit id actions = own_info (id_text id) ∷ actions

abbrev pub commit_text : ℕ → ℤ → List Action → List ℕ
commit_text id now actions = own_info_line (id_text id) now ++ text_of actions

abbrev pub allowed : Start → List Action → ℕ → Result (Unit {0}) Refusal
allowed from actions id = verdict (unbuilt from.before actions) (first_broken_so_far from.before from.version (own_commit id actions))

-- a version, the way by which its commit comes, and the text
pub record Writing : Type 0 where
  pub version : ℕ
  pub way : Way
  pub text : List ℕ

-- a text is written as the version that comes next, by the way by which the table goes on
abbrev pub written_after : Start → List ℕ → Writing
written_after from text = record { version = from.version; way = way_of from.before; text = text }

-- a text over the limit of objects isn't written
abbrev pub if_within : ℕ → Writing → Result Writing Refusal
if_within limit writing = if_fits (fits limit (Some (length writing.text))) (Ok writing)

abbrev pub if_allowed : Result (Unit {0}) Refusal → Result Writing Refusal → Result Writing Refusal
if_allowed (Ok u) writing = writing
if_allowed (Err refusal) writing = Err refusal

abbrev pub attempt_from : Result Start Refusal → Limits → List Action → ℤ → ℕ → Result Writing Refusal
attempt_from (Ok from) limits actions now id = if_allowed (allowed from actions id) (if_within limits.object (written_after from (commit_text id now actions)))
attempt_from (Err refusal) limits actions now id = Err refusal

-- what a commit over these events is to write, or why it is refused
abbrev pub attempt : List Told → Limits → List Action → ℤ → ℕ → Result Writing Refusal
attempt events limits actions now id = attempt_from (start events limits now) limits actions now id
