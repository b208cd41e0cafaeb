-- Each commit of a history came by the way by which the table went on before it.
use Rattle.std.proofs.Common.{◌≡◌, ℕ, ◌+◌, ◌<◌, ◌≤◌, Bool, true, false, ◌&&◌, inl, inr, length, take, List, [], ◌∷◌, ◌++◌, Option, Some, None, slice_get, if◌then◌else◌, refl, sym, ap, ◌∙◌, arith, length-append}
use Rattle.std.specs.Prelude.{◌==◌}
use Rattle.std.proofs.lemmas.Bool.{cases_lt}
use Rattle.std.proofs.lemmas.List.{map-append, take-append-le}
use Rattle.std.proofs.lemmas.Option.{slice_get_within}
use Rattle.std.proofs.Math.Seq.{take-length}
use Rattle.dk_model.specs.declared.action.Action.{Action}
use Rattle.dk_model.specs.CommitText.{commit_of}
use Rattle.dk_model.specs.State.{fold}
use Rattle.dk_store.specs.Told.{Told, Made, Over, Deleted, Ratified, Forgotten}
use Rattle.dk_paths.specs.Places.{Place, Commit_at, Classic, Part, V2, Compacted, Hint, Sidecar, Staged, Other, place_of}
use Rattle.dk_lawful.specs.History.{Way, By_file, By_catalogue, RatifiedCommit, goes_on_by, commits_of, state_of, longer, after_made, staged_commit, history}
use Rattle.dk_lawful.specs.Laws.{EachCameItsWay}
use Rattle.dk_lawful.proofs.Lists.{slice_get-end, slice_get-before}
use Rattle.dk_lawful.proofs.Sound.{length_commits}

abbrev pub CameItsWay : List RatifiedCommit → Type 0
CameItsWay h = (version : ℕ) (commit : RatifiedCommit) → slice_get h version ≡ Some commit → goes_on_by commit.way (fold (take version (commits_of h))) ≡ true

front : (h : List RatifiedCommit) (commit : RatifiedCommit) (count : ℕ) → count ≤ length h → take count (commits_of (h ++ commit ∷ [])) ≡ take count (commits_of h)
front h commit count most =
    ap (take count) (map-append (λ (c : RatifiedCommit). c.actions) h (commit ∷ []))
    ∙ take-append-le count (commits_of h) (commit.actions ∷ []) (let many = length_commits h in omega arith)

whole : (h : List RatifiedCommit) → take (length h) (commits_of h) ≡ commits_of h
whole h = ap (λ n. take n (commits_of h)) (sym (length_commits h)) ∙ take-length (commits_of h)

one_more : (h : List RatifiedCommit) (commit : RatifiedCommit) → CameItsWay h → goes_on_by commit.way (state_of h) ≡ true → CameItsWay (h ++ commit ∷ [])
one_more h commit all goes version found is = elim (cases_lt version (length h)) [
  | inl less ↦
      ap (λ cs. goes_on_by found.way (fold cs)) (front h commit version (omega arith)) ∙ all version found (sym (slice_get-before h (commit ∷ []) version less) ∙ is)
  | inr at_least ↦
      let within : version < length (h ++ commit ∷ []) = slice_get_within (h ++ commit ∷ []) version found is in
      let long : length (h ++ commit ∷ []) ≡ length h + 1 = length-append h (commit ∷ []) in
      let e : version ≡ length h = omega arith in
      let both : Some commit ≡ Some found = sym (ap (slice_get (h ++ commit ∷ [])) e ∙ slice_get-end h commit) ∙ is in
      let same : commit ≡ found = cc in
      ap (λ (c : RatifiedCommit). goes_on_by c.way (fold (take version (commits_of (h ++ commit ∷ []))))) (sym same)
      ∙ ap (λ n. goes_on_by commit.way (fold (take n (commits_of (h ++ commit ∷ []))))) e
      ∙ ap (λ cs. goes_on_by commit.way (fold cs)) (front h commit (length h) (omega arith) ∙ whole h) ∙ goes
]

if_more : (h : List RatifiedCommit) (commit : RatifiedCommit) (next : Bool) (goes : Bool) → goes_on_by commit.way (state_of h) ≡ goes → CameItsWay h
    → CameItsWay (if next && goes then h ++ commit ∷ [] else h)
if_more h commit true true is all = one_more h commit all is
if_more h commit true false is all = all
if_more h commit false true is all = all
if_more h commit false false is all = all

longer_way : (h : List RatifiedCommit) (way : Way) (version : ℕ) (found : Option (List Action)) → CameItsWay h → CameItsWay (longer h way version found)
longer_way h way version None all = all
longer_way h way version (Some actions) all = if_more h (record { way = way; actions = actions }) (version == length h) (goes_on_by way (state_of h)) refl all

made_way : (h : List RatifiedCommit) (place : Place) (bytes : List ℕ) → CameItsWay h → CameItsWay (after_made h place bytes)
made_way h (Commit_at version) bytes all = longer_way h By_file version (commit_of bytes) all
made_way h (Classic version) bytes all = all
made_way h (Part version part parts) bytes all = all
made_way h (V2 version id json) bytes all = all
made_way h (Compacted first last) bytes all = all
made_way h Hint bytes all = all
made_way h (Sidecar name) bytes all = all
made_way h (Staged version id) bytes all = all
made_way h (Other path) bytes all = all

all_came : (events : List Told) → CameItsWay (history events)
all_came [] = λ version commit is. absurd (let no : ◌≡◌ {A = Option RatifiedCommit} None (Some commit) = is in cc)
all_came (Made path bytes stamp ∷ events) = made_way (history events) (place_of path) bytes (all_came events)
all_came (Over path bytes stamp ∷ events) = all_came events
all_came (Deleted path ∷ events) = all_came events
all_came (Ratified version name ∷ events) = longer_way (history events) By_catalogue version (staged_commit events name) (all_came events)
all_came (Forgotten upto ∷ events) = all_came events

pub each_came_its_way : EachCameItsWay
each_came_its_way events version commit is = all_came events version commit is
