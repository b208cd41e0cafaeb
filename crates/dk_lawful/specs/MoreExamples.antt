-- The example with events of the other kinds.
use Rattle.std.specs.Prelude.{ℕ, ℤ, pos, List, ◌∷◌, ◌++◌, codes}
use Rattle.dk_store.specs.Told.{Told, Made, Over, Deleted, Forgotten}
use Rattle.dk_paths.specs.Places.{Compacted, Hint, Sidecar, Staged, place_path}
use Rattle.dk_lawful.specs.Lawful.{Lawful}
use Rattle.dk_lawful.specs.Example.{first_text, second_text, example}

-- after the example these may come, one after another, the first of them last
abbrev pub IsLawfulAfter : (List Told → List Told) → Type 0
IsLawfulAfter more = (horizon : ℤ) → Lawful (more example) horizon

-- a compacted file of both commits
abbrev pub compacting : List Told → List Told
compacting events = Made (place_path (Compacted 0 1)) (first_text ++ second_text) (pos 2) ∷ events

-- the hint, made, written over, and torn so that nothing is left
abbrev pub hinting : List Told → List Told
hinting events = Deleted (place_path Hint) ∷ Over (place_path Hint) (codes "{}") (pos 3) ∷ Made (place_path Hint) (codes "{") (pos 2) ∷ events

-- a staged commit of the next version, and that it goes, as it isn't ratified
abbrev pub staged_event : Told
staged_event = Made (place_path (Staged 2 7)) second_text (pos 2)

abbrev pub dropping : List Told → List Told
dropping events = Deleted (place_path (Staged 2 7)) ∷ staged_event ∷ events

-- a sidecar, and that it goes, as nothing names it
abbrev pub side_name : List ℕ
side_name = codes "s.parquet"

abbrev pub cleaning : List Told → List Told
cleaning events = Deleted (place_path (Sidecar side_name)) ∷ Made (place_path (Sidecar side_name)) (codes "s") (pos 2) ∷ events

-- a data file, made, written over and deleted
abbrev pub storing : List Told → List Told
storing events = Deleted (codes "a") ∷ Over (codes "a") (codes "y") (pos 3) ∷ Made (codes "a") (codes "x") (pos 2) ∷ events

-- what stands ratified up to a published version is forgotten, here nothing
abbrev pub forgetting : List Told → List Told
forgetting events = Forgotten 1 ∷ events
