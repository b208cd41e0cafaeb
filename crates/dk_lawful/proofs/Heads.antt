-- From version 0 on a table has a protocol and metadata: the first commit brings both, and nothing takes them away.
use Rattle.std.proofs.Common.{◌≡◌, ℕ, zero, suc, ◌+◌, ◌<◌, ◌≤◌, true, inl, inr, length, take, List, [], ◌∷◌, ◌++◌, IsSome, refl, sym, ap, subst, ◌∙◌, arith, length-append, filter_map}
use Rattle.std.proofs.lemmas.Bool.{and_parts, eqb-true, cases_lt}
use Rattle.std.proofs.lemmas.List.{take-append-le, map-append}
use Rattle.std.proofs.Math.Seq.{take-length}
use Rattle.dk_model.specs.declared.action.Action.{Action}
use Rattle.dk_model.specs.declared.action.Action.TheVariants as action
use Rattle.dk_model.specs.declared.state.TableState.{TableState}
use Rattle.dk_model.specs.State.{step, steps, steps_of_all, fold, empty_state}
use Rattle.dk_lawful.specs.History.{RatifiedCommit, commits_of, state_of, HasHeads}
use Rattle.dk_model.specs.Changes.{protocol_in, metadata_in}
use Rattle.dk_lawful.specs.Rules.{keeps_heads, IsValidNext}
use Rattle.dk_lawful.specs.Timestamps.{last_timestamp}
use Rattle.dk_lawful.proofs.Management.{kept}
use Rattle.dk_lawful.proofs.Sound.{length_commits}

step_protocol : (s : TableState) (a : Action) → IsSome s.protocol → IsSome (step s a).protocol
step_protocol s (action.Protocol p) some = refl
step_protocol s _ some = some

steps_protocol : (s : TableState) (actions : List Action) → IsSome s.protocol → IsSome (steps s actions).protocol
steps_protocol s [] some = some
steps_protocol s (a ∷ rest) some = steps_protocol (step s a) rest (step_protocol s a some)

step_metadata : (s : TableState) (a : Action) → IsSome s.metadata → IsSome (step s a).metadata
step_metadata s (action.Metadata m) some = refl
step_metadata s _ some = some

steps_metadata : (s : TableState) (actions : List Action) → IsSome s.metadata → IsSome (steps s actions).metadata
steps_metadata s [] some = some
steps_metadata s (a ∷ rest) some = steps_metadata (step s a) rest (step_metadata s a some)

brings_protocol : (s : TableState) (actions : List Action) → 1 ≤ length (filter_map protocol_in actions) → IsSome (steps s actions).protocol
brings_protocol s [] some = absurd (omega arith)
brings_protocol s (action.Protocol p ∷ rest) some = steps_protocol (step s (action.Protocol p)) rest refl
brings_protocol s (a ∷ rest) some = brings_protocol (step s a) rest some

brings_metadata : (s : TableState) (actions : List Action) → 1 ≤ length (filter_map metadata_in actions) → IsSome (steps s actions).metadata
brings_metadata s [] some = absurd (omega arith)
brings_metadata s (action.Metadata m ∷ rest) some = steps_metadata (step s (action.Metadata m)) rest refl
brings_metadata s (a ∷ rest) some = brings_metadata (step s a) rest some

heads_step : (s : TableState) (actions : List Action) → HasHeads s → HasHeads (steps s actions)
heads_step s actions heads = record { protocol = steps_protocol s actions heads.protocol; metadata = steps_metadata s actions heads.metadata }

begins : (s : TableState) (actions : List Action) → keeps_heads 0 actions ≡ true → HasHeads (steps s actions)
begins s actions kept =
    let both = and_parts _ _ kept in
    let protocols : length (filter_map protocol_in actions) ≡ 1 = eqb-true _ 1 both.0 in
    let metadata : length (filter_map metadata_in actions) ≡ 1 = eqb-true _ 1 both.1 in
    record { protocol = brings_protocol s actions (omega arith); metadata = brings_metadata s actions (omega arith) }

steps_of_all-end : (s : TableState) (cs : List (List Action)) (c : List Action) → steps_of_all s (cs ++ c ∷ []) ≡ steps (steps_of_all s cs) c
steps_of_all-end s [] c = refl
steps_of_all-end s (d ∷ cs) c = steps_of_all-end (steps s d) cs c

pub state_after : (h : List RatifiedCommit) (commit : RatifiedCommit) → state_of (h ++ commit ∷ []) ≡ steps (state_of h) commit.actions
state_after h commit =
    ap fold (map-append (λ (c : RatifiedCommit). c.actions) h (commit ∷ [])) ∙ steps_of_all-end empty_state (commits_of h) commit.actions

-- each version of the history has both
abbrev pub AllWhole : List RatifiedCommit → Type 0
AllWhole h = (version : ℕ) → version < length h → HasHeads (fold (take (version + 1) (commits_of h)))

whole_now : (h : List RatifiedCommit) → AllWhole h → (count : ℕ) → length h ≡ suc count → HasHeads (state_of h)
whole_now h all count is =
    let long = length_commits h in
    let whole : take (count + 1) (commits_of h) ≡ commits_of h = ap (λ n. take n (commits_of h)) (let e : count + 1 ≡ length (commits_of h) = omega arith in e) ∙ take-length (commits_of h) in
    subst (λ cs. HasHeads (fold cs)) whole (all count (omega arith))

pub one_more : (h : List RatifiedCommit) (commit : RatifiedCommit) → AllWhole h → IsValidNext (commits_of h) commit.actions → AllWhole (h ++ commit ∷ [])
one_more h commit all valid version below = elim (cases_lt version (length h)) [
  | inl less ↦
      let front : take (version + 1) (commits_of (h ++ commit ∷ [])) ≡ take (version + 1) (commits_of h) =
      ap (take (version + 1)) (map-append (λ (c : RatifiedCommit). c.actions) h (commit ∷ []))
      ∙ take-append-le (version + 1) (commits_of h) (commit.actions ∷ []) (let long = length_commits h in omega arith) in
      subst (λ cs. HasHeads (fold cs)) (sym front) (all version less)
  | inr at_least ↦
      let long : length (h ++ commit ∷ []) ≡ length h + 1 = length-append h (commit ∷ []) in
      let longer = length_commits (h ++ commit ∷ []) in
      let whole : take (version + 1) (commits_of (h ++ commit ∷ [])) ≡ commits_of (h ++ commit ∷ []) =
      ap (λ n. take n (commits_of (h ++ commit ∷ []))) (let e : version + 1 ≡ length (commits_of (h ++ commit ∷ [])) = omega arith in e)
      ∙ take-length (commits_of (h ++ commit ∷ [])) in
      subst (λ cs. HasHeads (fold cs)) (sym whole) (subst HasHeads (sym (state_after h commit)) (at (length h) refl))
]
  where
    at : (count : ℕ) → length h ≡ count → HasHeads (steps (state_of h) commit.actions)
    at zero is = begins (state_of h) commit.actions
        (ap (λ v. keeps_heads v commit.actions) (sym (length_commits h ∙ is)) ∙ (kept (state_of h) (last_timestamp (commits_of h)) (length (commits_of h)) commit.actions valid).heads)
    at (suc count) is = heads_step (state_of h) commit.actions (whole_now h all count is)
