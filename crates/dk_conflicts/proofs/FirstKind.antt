-- The first kind that is in the way, and the first commit.
use Rattle.std.proofs.Common.{◌≡◌, ℕ, ◌+◌, ◌<◌, ◌≤◌, List, Bool, true, false, cond, Some, None, find, get_or, ap, sym, subst, ◌∙◌, drop, length, slice_index_or}
use Rattle.std.proofs.Math.ListN.{drop_of_length-le}
use Rattle.std.proofs.lemmas.List.{drop_more}
use Rattle.dk_model.specs.declared.action.Action.{Action}
use Rattle.dk_model.specs.declared.kind.Kind.{Kind}
use Rattle.dk_conflicts.specs.declared.reads.Reads.{Reads}
use Rattle.dk_conflicts.specs.Conflicts.{conflict_from, first_in_the_way, kind_of}
use Rattle.dk_model.proofs.NameSets.{at_item}

module _ (test : Kind → Bool) (xs all : List Kind) (i : ℕ) (d : Kind) (same : xs ≡ all) where
  split : i < length xs → find test (drop i all) ≡ cond (test (slice_index_or xs i d)) (Some (slice_index_or xs i d)) (find test (drop (i + 1) all))
  split less = subst (λ ys. find test (drop i ys) ≡ cond (test (slice_index_or xs i d)) (Some (slice_index_or xs i d)) (find test (drop (i + 1) ys))) same (ap (find test) (drop_more xs i d less))

  pub found_here : i < length xs → test (slice_index_or xs i d) ≡ true → find test (drop i all) ≡ Some (slice_index_or xs i d)
  found_here less is = split less ∙ ap (λ b. cond b (Some (slice_index_or xs i d)) (find test (drop (i + 1) all))) is

  pub found_later : i < length xs → test (slice_index_or xs i d) ≡ false → find test (drop (i + 1) all) ≡ find test (drop i all)
  found_later less is = sym (split less ∙ ap (λ b. cond b (Some (slice_index_or xs i d)) (find test (drop (i + 1) all))) is)

  pub found_nowhere : length xs ≤ i → find test (drop i all) ≡ None
  found_nowhere past = subst (λ ys. find test (drop i ys) ≡ None) same (ap (find test) (drop_of_length-le xs past))

-- ---- along the commits that came in between

step : (read : Reads) (own : List Action) (winners : List (List Action)) (place : ℕ) (winner : List Action) → place < length winners → winner ≡ get_or winners place winner
    → conflict_from read own place (drop place winners) ≡ first_in_the_way place (kind_of read own winner) (conflict_from read own (place + 1) (drop (place + 1) winners))
step read own winners place winner less is = ap (conflict_from read own place) (at_item winners place winner less is)

pub winner_is : (read : Reads) (own : List Action) (winners : List (List Action)) (place : ℕ) (winner : List Action) (k : Kind) → place < length winners → winner ≡ get_or winners place winner
    → Some k ≡ kind_of read own winner → conflict_from read own place (drop place winners) ≡ Some (place, k)
winner_is read own winners place winner k less is way =
    step read own winners place winner less is ∙ ap (λ o. first_in_the_way place o (conflict_from read own (place + 1) (drop (place + 1) winners))) (sym way)

pub winner_passed : (read : Reads) (own : List Action) (winners : List (List Action)) (place : ℕ) (winner : List Action) → place < length winners → winner ≡ get_or winners place winner
    → None ≡ kind_of read own winner → conflict_from read own (place + 1) (drop (place + 1) winners) ≡ conflict_from read own place (drop place winners)
winner_passed read own winners place winner less is way =
    sym (step read own winners place winner less is ∙ ap (λ o. first_in_the_way place o (conflict_from read own (place + 1) (drop (place + 1) winners))) (sym way))
