-- Reading steps from the newest to the oldest, over a store that may tell its events.
use Rattle.std.proofs.Common.{◌≡◌, ℕ, suc, List, [], ◌∷◌, ◌++◌, refl, ap, sym, subst, ◌∙◌, append_assoc, reverse, take, length, get_or, ◌-◌, ◌<◌, arith}
use Rattle.std.proofs.lemmas.List.{append-nil, reverse-append, get_or-map, length-map}
use Rattle.std.proofs.lemmas.Option.{slice_get-get_or}
use Rattle.std.proofs.Math.Seq.{take-length, take-suc}
use Rattle.std.specs.Prelude.{Option, Some, None, Result, Ok, Err, IfSome, map, option_and_then}
use Rattle.std.specs.List.{filter, slice_get}
use Rattle.dk_store.specs.Told.{Told}
use Rattle.dk_model.specs.declared.action.Action.{Action}
use Rattle.dk_lawful.specs.declared.segment.Step.{Step}
use Rattle.dk_engine.specs.declared.refusal.Refusal.{Refusal}
use Rattle.dk_engine.specs.Answers.{Refuses}
use Rattle.dk_engine.proofs.Refused.{refused_by_part}
use Rattle.dk_listing.specs.Sizes.{stored_size}
use Rattle.dk_snapshot.specs.Effects.{changes_state, changes_of, changes_read}
use Rattle.dk_snapshot.specs.Log.{behind_older, newest_behind}
use Rattle.dk_snapshot.specs.Steps.{AreSized, commit_at_path, commits_back, commits_of_steps, step_path}

abbrev Commits : Type 0
Commits = Result (List (List Action)) Refusal

behind_older-newest : (older : Commits) (commit : List Action) (newer : List (List Action)) → behind_older (behind_older older (commit ∷ [])) newer ≡ behind_older older (commit ∷ newer)
behind_older-newest (Ok xs) commit newer = ap Ok (append_assoc xs (commit ∷ []) newer)
behind_older-newest (Err refusal) commit newer = refl

-- one more step is the newest
pub commits_last : (events : List Told) (limit : ℕ) (steps : List Step) (step : Step) → commits_of_steps events limit (steps ++ step ∷ []) ≡ newest_behind (commit_at_path events limit (step_path step)) (commits_of_steps events limit steps)
commits_last events limit steps step = ap (commits_back events limit) (reverse-append steps (step ∷ []))

-- the step at a place is the newest of those up to it
up_to : (events : List Told) (limit : ℕ) (steps : List Step) (place : ℕ) (step : Step) → place < length steps → step ≡ get_or steps place step
    → commits_of_steps events limit (take (suc place) steps) ≡ newest_behind (commit_at_path events limit (step_path step)) (commits_of_steps events limit (take place steps))
up_to events limit steps place step less is =
    ap (commits_of_steps events limit) (take-suc steps place step less ∙ ap (λ (s : Step). take place steps ++ s ∷ []) (sym is)) ∙ commits_last events limit (take place steps) step

-- what is read so far, behind what is left
abbrev IsRead : List Told → ℕ → List Step → ℕ → List (List Action) → Type 0
IsRead events limit steps place newer = commits_of_steps events limit steps ≡ behind_older (commits_of_steps events limit (take place steps)) newer

-- the changes of what is read so far
pub record AreRead (events : List Told) (limit : ℕ) (steps : List Step) (place : ℕ) (changes : List Action) : Type 0 where
  pub newer : List (List Action)
  pub read : IsRead events limit steps place newer
  pub are_of : changes ≡ changes_of newer

-- the size of the step at a place
pub size_of_step : (events : List Told) (steps : List Step) (sizes : List (Option ℕ)) (place : ℕ) (step : Step) → place < length steps → step ≡ get_or steps place step → AreSized events steps sizes
    → option_and_then (λ (size : Option ℕ). size) (slice_get sizes place) ≡ stored_size events (step_path step)
size_of_step events steps sizes place step less is sized =
    let size : Step → Option ℕ = λ s. stored_size events (step_path s) in
    let inside : place < length (map size steps) = subst (λ (n : ℕ). place < n) (sym (length-map steps size)) less in
    ap (λ (s : List (Option ℕ)). option_and_then (λ (size : Option ℕ). size) (slice_get s place)) sized
    ∙ ap (option_and_then (λ (size : Option ℕ). size)) (slice_get-get_or (map size steps) place None inside ∙ ap Some (get_or-map size steps place step None less))
    ∙ ap size (sym is)

-- after one turn: `mid` is what the store tells before the read, and `items` the changes read after it
pub read_more : (told mid : Option (List Told)) (limit : ℕ) (steps : List Step) (sizes : List (Option ℕ)) (top : ℕ) (step : Step) (size : Option ℕ) (found items commit : List Action)
    → 0 < top → top - 1 < length steps → step ≡ get_or steps (top - 1) step → size ≡ option_and_then (λ (known : Option ℕ). known) (slice_get sizes (top - 1))
    → reverse items ≡ filter changes_state commit ++ reverse found → mid ≡ told
    → IfSome told (λ events. AreSized events steps sizes → AreRead events limit steps top (reverse found))
    → IfSome mid (λ events. size ≡ stored_size events (step_path step) → commit_at_path events limit (step_path step) ≡ Ok commit)
    → IfSome told (λ events. AreSized events steps sizes → AreRead events limit steps (top - 1) (reverse items))
read_more None mid limit steps sizes top step size found items commit above less is known grown same before here = tt
read_more (Some events) mid limit steps sizes top step size found items commit above less is known grown same before here = λ sized.
    let up : top ≡ suc (top - 1) = omega arith in
    let read : size ≡ stored_size events (step_path step) → commit_at_path events limit (step_path step) ≡ Ok commit = rw same at here in
    let older : Commits = commits_of_steps events limit (take (top - 1) steps) in
    let now : commits_of_steps events limit (take top steps) ≡ behind_older older (commit ∷ []) =
    ap (λ (n : ℕ). commits_of_steps events limit (take n steps)) up ∙ up_to events limit steps (top - 1) step less is
    ∙ ap (λ (meant : Result (List Action) Refusal). newest_behind meant older) (read (known ∙ size_of_step events steps sizes (top - 1) step less is sized)) in
    let so_far : AreRead events limit steps top (reverse found) = before sized in
    record {
      newer = commit ∷ so_far.newer;
      read = so_far.read ∙ ap (λ (c : Commits). behind_older c so_far.newer) now ∙ behind_older-newest older commit so_far.newer;
      are_of = grown ∙ ap (λ (rest : List Action). filter changes_state commit ++ rest) so_far.are_of;
    }

-- a refusal of the next step is that of all of them
pub read_stop : (told mid : Option (List Told)) (limit : ℕ) (steps : List Step) (sizes : List (Option ℕ)) (top : ℕ) (step : Step) (size : Option ℕ) (newer : List Action) (refusal : Refusal)
    → 0 < top → top - 1 < length steps → step ≡ get_or steps (top - 1) step → size ≡ option_and_then (λ (known : Option ℕ). known) (slice_get sizes (top - 1)) → mid ≡ told
    → IfSome told (λ events. AreSized events steps sizes → AreRead events limit steps top newer)
    → IfSome mid (λ events. size ≡ stored_size events (step_path step) → Refuses refusal (commit_at_path events limit (step_path step)))
    → IfSome told (λ events. AreSized events steps sizes → Refuses refusal (changes_read (commits_of_steps events limit steps)))
read_stop None mid limit steps sizes top step size newer refusal above less is known same before here = tt
read_stop (Some events) mid limit steps sizes top step size newer refusal above less is known same before here = λ sized.
    let up : top ≡ suc (top - 1) = omega arith in
    let refused : size ≡ stored_size events (step_path step) → Refuses refusal (commit_at_path events limit (step_path step)) = rw same at here in
    let older : Commits = commits_of_steps events limit (take (top - 1) steps) in
    let so_far : AreRead events limit steps top newer = before sized in
    let whole : commits_of_steps events limit steps ≡ behind_older (newest_behind (commit_at_path events limit (step_path step)) older) so_far.newer =
    so_far.read ∙ ap (λ (c : Commits). behind_older c so_far.newer) (ap (λ (n : ℕ). commits_of_steps events limit (take n steps)) up ∙ up_to events limit steps (top - 1) step less is) in
    subst (λ (meant : Commits). Refuses refusal (changes_read meant)) (sym whole)
    (refused_by_part (λ (here : Result (List Action) Refusal). changes_read (behind_older (newest_behind here older) so_far.newer)) (λ r. refl) refusal (commit_at_path events limit (step_path step))
    (refused (known ∙ size_of_step events steps sizes (top - 1) step less is sized)))

behind_none : (older : Commits) → behind_older older [] ≡ older
behind_none (Ok xs) = ap Ok (append-nil xs)
behind_none (Err refusal) = refl

-- no step is read
pub read_none : (told : Option (List Told)) (limit : ℕ) (steps : List Step) (sizes : List (Option ℕ)) (place : ℕ) (found : List Action) → place ≡ length steps → found ≡ []
    → IfSome told (λ events. AreSized events steps sizes → AreRead events limit steps place (reverse found))
read_none None limit steps sizes place found all none = tt
read_none (Some events) limit steps sizes place found all none = λ sized.
    let whole : take place steps ≡ steps = ap (λ (n : ℕ). take n steps) all ∙ take-length steps in
    record {
      newer = [];
      read = ap (commits_of_steps events limit) (sym whole) ∙ sym (behind_none (commits_of_steps events limit (take place steps)));
      are_of = ap reverse none;
    }

-- all steps are read
pub read_all : (told : Option (List Told)) (limit : ℕ) (steps : List Step) (sizes : List (Option ℕ)) (place : ℕ) (found : List Action) → place ≡ 0
    → IfSome told (λ events. AreSized events steps sizes → AreRead events limit steps place (reverse found))
    → IfSome told (λ events. AreSized events steps sizes → changes_read (commits_of_steps events limit steps) ≡ Ok (reverse found))
read_all None limit steps sizes place found none before = tt
read_all (Some events) limit steps sizes place found none before = λ sized.
    let so_far : AreRead events limit steps place (reverse found) = before sized in
    ap changes_read (so_far.read ∙ ap (λ (n : ℕ). behind_older (commits_of_steps events limit (take n steps)) so_far.newer) none) ∙ ap Ok (sym so_far.are_of)
