-- The managed table, of which two versions are ratified before either is published.
use Rattle.std.specs.Prelude.{ℕ, ℤ, pos, true, List, [], ◌∷◌, ◌++◌, codes}
use Rattle.dk_model.specs.declared.action.Action.{Action}
use Rattle.dk_store.specs.Told.{Told, Made, Deleted, Ratified, Forgotten}
use Rattle.dk_paths.specs.Names.{commit_path}
use Rattle.dk_paths.specs.Places.{Staged, V2, place_path}
use Rattle.dk_paths.specs.Staged.{staged_name}
use Rattle.dk_lawful.specs.Lawful.{Lawful}
use Rattle.dk_lawful.specs.Contents.{mark}
use Rattle.dk_lawful.specs.ManagedExample.{founding_text, founding_actions, said_at, plain_file, adding_text, adding_actions, catalogued}

-- another file, later than the commit before
unfoldable pub next_text : List ℕ
next_text = codes "{\"commitInfo\":{\"inCommitTimestamp\":7}}\n{\"add\":{\"modificationTime\":5,\"path\":\"b\",\"size\":1}}\n"

abbrev pub next_actions : List Action
next_actions = said_at 7 ∷ plain_file (codes "b") ∷ []

abbrev pub next_staged : List Told
next_staged = Made (place_path (Staged 2 5)) next_text (pos 4) ∷ catalogued

abbrev pub both_ratified : List Told
both_ratified = Ratified 2 (staged_name 2 5) ∷ next_staged

-- they are published one after the other
abbrev pub one_published : List Told
one_published = Made (commit_path 1) adding_text (pos 5) ∷ both_ratified

abbrev pub both_published : List Told
both_published = Made (commit_path 2) next_text (pos 6) ∷ one_published

-- a checkpoint of the last version
unfoldable pub mark_text_2 : List ℕ
mark_text_2 = codes "{\"checkpointMetadata\":{\"version\":2}}\n"

abbrev pub backlog_text : List ℕ
backlog_text = mark_text_2 ++ (founding_text ++ (adding_text ++ next_text))

abbrev pub whole_actions : List Action
whole_actions = mark 2 ∷ (founding_actions ++ (adding_actions ++ next_actions))

abbrev pub covered : List Told
covered = Made (place_path (V2 2 9 true)) backlog_text (pos 7) ∷ both_published

-- once the ratifications are forgotten, the first of the two commits may go
abbrev pub cleared : List Told
cleared = Deleted (commit_path 1) ∷ Forgotten 2 ∷ covered

abbrev pub BacklogIsLawful : Type 0
BacklogIsLawful = (horizon : ℤ) → Lawful cleared horizon
