-- One more piece of the input, over what a source may tell.
use Rattle.std.proofs.Common.{◌≡◌, ℕ, ◌≤◌, ◌+◌, List, ◌++◌, length, length-append, take, Option, Some, None, refl, ap, sym, ◌∙◌, append_assoc, arith}
use Rattle.std.specs.Prelude.{IfSome}
use Rattle.std.proofs.lemmas.List.{length-take-le, take-append-le}
use Rattle.dk_store.specs.Stream.{before}
use Rattle.dk_engine.specs.declared.limits.Limits.{Limits}
use Rattle.dk_engine.specs.declared.limits.Which.{Which}
use Rattle.dk_cli.specs.Input.{first_passed_from, first_passed}
use Rattle.dk_cli.specs.Reading.{TakesAtMost}
use Rattle.dk_cli.proofs.Scans.{limit_behind}

-- what was left at first, by what is left after one more piece
one_more_piece : (bytes piece : List ℕ) (initial old now : Option (List ℕ)) → initial ≡ before bytes old → old ≡ before piece now → initial ≡ before (bytes ++ piece) now
one_more_piece bytes piece initial old None first here = first ∙ ap (before bytes) here
one_more_piece bytes piece initial old (Some rest) first here = first ∙ ap (before bytes) here ∙ ap Some (sym (append_assoc bytes piece rest))

taken_most : (bytes : List ℕ) (most : ℕ) (initial now : Option (List ℕ)) → initial ≡ before bytes now → length bytes ≤ most → TakesAtMost most initial now
taken_most bytes most initial None is few = rw is tt
taken_most bytes most initial (Some rest) is few = rw is (let sizes : length (bytes ++ rest) ≡ length bytes + length rest = length-append bytes rest in omega (arith, sizes, few))

-- with some first bytes of a buffer more at most so many are taken
pub at_most : (bytes buffer : List ℕ) (count most : ℕ) (initial old now : Option (List ℕ)) → initial ≡ before bytes old → old ≡ before (take count buffer) now → count ≤ length buffer
    → length bytes + count ≤ most → TakesAtMost most initial now
at_most bytes buffer count most initial old now first here le few =
    let piece : length (take count buffer) ≡ count = length-take-le count buffer le in
    let sizes : length (bytes ++ take count buffer) ≡ length bytes + length (take count buffer) = length-append bytes (take count buffer) in
    taken_most (bytes ++ take count buffer) most initial now (one_more_piece bytes (take count buffer) initial old now first here) (omega (arith, sizes, piece, few))

module _ (bytes taken tail : List ℕ) (count : ℕ) (le : count ≤ length taken) (initial old now : Option (List ℕ)) (first : initial ≡ before bytes old) (here : old ≡ before (take count taken) now) where
  same : take count (taken ++ tail) ≡ take count taken
  same = take-append-le count taken tail le

  pub left_after : (items : List ℕ) → items ≡ bytes ++ take count (taken ++ tail) → initial ≡ before items now
  left_after items grown = one_more_piece bytes (take count taken) initial old now first here ∙ ap (λ (xs : List ℕ). before xs now) (sym (grown ∙ ap (λ (xs : List ℕ). bytes ++ xs) same))

  go : (limits : Limits) (which : Which) (rest : Option (List ℕ)) → rest ≡ now → first_passed limits bytes ≡ None
      → Some which ≡ first_passed_from limits (length bytes) (length (take count taken)) (bytes ++ take count taken) → IfSome initial (λ left. first_passed limits left ≡ Some which)
  go limits which None is none some = let nothing : initial ≡ None = first ∙ ap (before bytes) (here ∙ ap (before (take count taken)) (sym is)) in rw nothing tt
  go limits which (Some rest) is none some =
      let all : initial ≡ Some (bytes ++ (take count taken ++ rest)) = first ∙ ap (before bytes) (here ∙ ap (before (take count taken)) (sym is)) in
      rw all (limit_behind limits bytes (take count taken) rest (bytes ++ (take count taken ++ rest)) which refl none some)

  pub limit_told : (limits : Limits) (which : Which) → first_passed limits bytes ≡ None
      → Some which ≡ first_passed_from limits (length bytes) (length (take count (taken ++ tail))) (bytes ++ take count (taken ++ tail)) → IfSome initial (λ left. first_passed limits left ≡ Some which)
  limit_told limits which none some = go limits which now refl none (rw same at some)
