-- Laws of lawful lists and of the history that follow from their shape alone.
use Rattle.std.proofs.Common.{◌≡◌, ℕ, zero, suc, ◌+◌, ◌≤◌, ℤ, ◌≤ℤ◌, Bool, true, false, ◌&&◌, length, List, [], ◌∷◌, ◌++◌, Option, Some, None, slice_get, refl, sym, ap, ◌∙◌, append_assoc, append-nil, arith, length-append, if◌then◌else◌}
use Rattle.std.specs.Prelude.{◌==◌}
use Rattle.dk_model.specs.declared.action.Action.{Action}
use Rattle.std.proofs.lemmas.Int.{ints}
use Rattle.dk_model.specs.declared.state.TableState.{TableState}
use Rattle.dk_model.specs.State.{steps, empty_state}
use Rattle.dk_model.specs.CommitText.{commit_of}
use Rattle.dk_store.specs.Told.{Told, Made, Over, Deleted, Ratified, Forgotten}
use Rattle.dk_paths.specs.Places.{Place, Commit_at, Classic, Part, V2, Compacted, Hint, Sidecar, Staged, Other, place_of}
use Rattle.dk_lawful.specs.History.{Way, By_file, By_catalogue, RatifiedCommit, goes_on_by, state_of, longer, after_made, staged_commit, history, table_at}
use Rattle.dk_lawful.specs.Permits.{Permits, MayMake, MakesTop}
use Rattle.dk_lawful.specs.Agree.{Agree}
use Rattle.dk_lawful.specs.Shares.{HasShare}
use Rattle.dk_lawful.specs.Checkpoints.{IsShare}
use Rattle.dk_lawful.specs.Laws.{PrefixesAreLawful, GreaterHorizonIsLawful, HistoryGrows, OneAtATime, CommitsStay}
use Rattle.dk_lawful.proofs.Lists.{slice_get-append}

pub prefixes_are_lawful : PrefixesAreLawful
prefixes_are_lawful [] events horizon lawful = lawful
prefixes_are_lawful (event ∷ newer) events horizon lawful = prefixes_are_lawful newer events horizon lawful.1

pub agrees_beyond : (state whole : TableState) (horizon greater : ℤ) → horizon ≤ℤ greater → Agree state whole horizon → Agree state whole greater
agrees_beyond state whole horizon greater up agree = record {
  protocol = agree.protocol;
  metadata = agree.metadata;
  files = agree.files;
  applications = agree.applications;
  domains = agree.domains;
  none_more = agree.none_more;
  unexpired = λ path time is above. agree.unexpired path time is (omega (arith, ints));
}

top_beyond : (events : List Told) (place : Place) (version : ℕ) (bytes : List ℕ) (horizon greater : ℤ) → horizon ≤ℤ greater
    → MakesTop events place version bytes horizon → MakesTop events place version bytes greater
top_beyond events place version bytes horizon greater up makes = record {
  published = makes.published;
  top = makes.top;
  means = makes.means;
  sides = makes.sides;
  sides_mean = makes.sides_mean;
  stands = agrees_beyond (steps empty_state (makes.top.actions ++ makes.sides)) (table_at events version) horizon greater up makes.stands;
  named = makes.named;
}

share_beyond : (actions : List Action) (state : TableState) (part parts : ℕ) (horizon greater : ℤ) → horizon ≤ℤ greater
    → HasShare actions state part parts horizon → HasShare actions state part parts greater
share_beyond actions state zero parts horizon greater up share = share
share_beyond actions state (suc zero) parts horizon greater up share = record {
  sets = share.sets;
  protocol = share.protocol;
  metadata = share.metadata;
  applications = share.applications;
  domains = share.domains;
  none_more = share.none_more;
  unexpired = λ path time is above. share.unexpired path time is (omega (arith, ints));
}
share_beyond actions state (suc (suc before)) parts horizon greater up share = share

part_beyond : (bytes : List ℕ) (state : TableState) (part parts : ℕ) (horizon greater : ℤ) → horizon ≤ℤ greater
    → IsShare bytes state part parts horizon → IsShare bytes state part parts greater
part_beyond bytes state part parts horizon greater up part_is = record {
  actions = part_is.actions;
  means = part_is.means;
  alone = part_is.alone;
  share = share_beyond part_is.actions state part parts horizon greater up part_is.share;
}

may_make_beyond : (events : List Told) (place : Place) (bytes : List ℕ) (horizon greater : ℤ) → horizon ≤ℤ greater → MayMake events place bytes horizon → MayMake events place bytes greater
may_make_beyond events (Commit_at version) bytes horizon greater up may = may
may_make_beyond events (Classic version) bytes horizon greater up may = top_beyond events (Classic version) version bytes horizon greater up may
may_make_beyond events (V2 version id json) bytes horizon greater up may = top_beyond events (V2 version id json) version bytes horizon greater up may
may_make_beyond events (Part version part parts) bytes horizon greater up may =
    record { published = may.published; share = part_beyond bytes (table_at events version) part parts horizon greater up may.share }
may_make_beyond events (Compacted first last) bytes horizon greater up may = may
may_make_beyond events Hint bytes horizon greater up may = may
may_make_beyond events (Sidecar name) bytes horizon greater up may = may
may_make_beyond events (Staged version id) bytes horizon greater up may = may
may_make_beyond events (Other path) bytes horizon greater up may = may

permitted_beyond : (events : List Told) (event : Told) (horizon greater : ℤ) → horizon ≤ℤ greater → Permits events event horizon → Permits events event greater
permitted_beyond events (Made path bytes stamp) horizon greater up may = (may.0, may_make_beyond events (place_of path) bytes horizon greater up may.1)
permitted_beyond events (Over path bytes stamp) horizon greater up may = may
permitted_beyond events (Deleted path) horizon greater up may = may
permitted_beyond events (Ratified version name) horizon greater up may = may
permitted_beyond events (Forgotten upto) horizon greater up may = may

pub greater_horizon_is_lawful : GreaterHorizonIsLawful
greater_horizon_is_lawful [] horizon greater up lawful = lawful
greater_horizon_is_lawful (event ∷ events) horizon greater up lawful =
    (permitted_beyond events event horizon greater up lawful.0, greater_horizon_is_lawful events horizon greater up lawful.1)

-- a history that is the old one, or has one commit more
pub record GrowsByOne (old new : List RatifiedCommit) : Type 0 where
  pub more : List RatifiedCommit
  pub is : new ≡ old ++ more
  pub one : length more ≤ 1

same : (h : List RatifiedCommit) → GrowsByOne h h
same h = record { more = []; is = sym (append-nil h); one = omega arith }

longer_if : (h : List RatifiedCommit) (commit : RatifiedCommit) (test : Bool) → GrowsByOne h (if test then h ++ commit ∷ [] else h)
longer_if h commit true = record { more = commit ∷ []; is = refl; one = omega arith }
longer_if h commit false = same h

longer_grows : (h : List RatifiedCommit) (way : Way) (version : ℕ) (found : Option (List Action)) → GrowsByOne h (longer h way version found)
longer_grows h way version None = same h
longer_grows h way version (Some actions) = longer_if h (record { way = way; actions = actions }) (version == length h && goes_on_by way (state_of h))

made_grows : (h : List RatifiedCommit) (place : Place) (bytes : List ℕ) → GrowsByOne h (after_made h place bytes)
made_grows h (Commit_at version) bytes = longer_grows h By_file version (commit_of bytes)
made_grows h (Classic version) bytes = same h
made_grows h (Part version part parts) bytes = same h
made_grows h (V2 version id json) bytes = same h
made_grows h (Compacted first last) bytes = same h
made_grows h Hint bytes = same h
made_grows h (Sidecar name) bytes = same h
made_grows h (Staged version id) bytes = same h
made_grows h (Other path) bytes = same h

pub grows_by_one : (event : Told) (events : List Told) → GrowsByOne (history events) (history (event ∷ events))
grows_by_one (Made path bytes stamp) events = made_grows (history events) (place_of path) bytes
grows_by_one (Over path bytes stamp) events = same (history events)
grows_by_one (Deleted path) events = same (history events)
grows_by_one (Ratified version name) events = longer_grows (history events) By_catalogue version (staged_commit events name)
grows_by_one (Forgotten upto) events = same (history events)

pub one_at_a_time : OneAtATime
one_at_a_time event events =
    let grown = grows_by_one event events in
    let long : length (history (event ∷ events)) ≡ length (history events) + length grown.more = ap length grown.is ∙ length-append (history events) grown.more in
    let one = grown.one in
    omega arith

pub history_grows : HistoryGrows
history_grows [] events = ([], sym (append-nil (history events)))
history_grows (event ∷ newer) events =
    let before = history_grows newer events in
    let grown = grows_by_one event (newer ++ events) in
    (before.0 ++ grown.more, grown.is ∙ ap (λ h. h ++ grown.more) before.1 ∙ append_assoc (history events) before.0 grown.more)

pub commits_stay : CommitsStay
commits_stay newer events version commit is =
    let grown = history_grows newer events in
    ap (λ h. slice_get h version) grown.1 ∙ slice_get-append (history events) grown.0 version commit is

-- where all is as it has to be, the history has the commit at its end
pub longer_is : (h : List RatifiedCommit) (way : Way) (version : ℕ) (found : Option (List Action)) (actions : List Action)
    → found ≡ Some actions → version == length h ≡ true → goes_on_by way (state_of h) ≡ true → longer h way version found ≡ h ++ record { way = way; actions = actions } ∷ []
longer_is h way version found actions is next goes =
    ap (longer h way version) is ∙ ap (λ (test : Bool). if test then h ++ record { way = way; actions = actions } ∷ [] else h)
    (ap (λ (test : Bool). test && goes_on_by way (state_of h)) next ∙ goes)
