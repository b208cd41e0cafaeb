-- The fault of a text is its first line that means nothing.
use Rattle.std.proofs.Common.{◌≡◌, ℕ, ◌+◌, List, [], ◌∷◌, Option, Some, None, Result, Ok, Err, inl, inr, refl}
use Rattle.std.specs.Option.{option_to_list}
use Rattle.dk_model.specs.declared.action.Action.{Action}
use Rattle.dk_model.specs.CommitText.{line_means, lines_of, reading, after_line, with_front, fault_in, IsFirstBad, FaultIsFirst}

kept : (front : List Action) (r : Result (List Action) ℕ) (n : ℕ) → fault_in (with_front front r) ≡ Some n → fault_in r ≡ Some n
kept front (Ok xs) n e = cc
kept front (Err m) n e = e

by_meaning : (m : Option (Option Action)) (from : ℕ) (line : List ℕ) (lines : List (List ℕ)) (n : ℕ) → line_means line ≡ m → (fault_in (reading (from + 1) lines) ≡ Some n → IsFirstBad (from + 1) lines n)
    → fault_in (after_line m from (reading (from + 1) lines)) ≡ Some n → IsFirstBad from (line ∷ lines) n
by_meaning None from line lines n is later e = let same : n ≡ from = cc in inl (same, is)
by_meaning (Some a) from line lines n is later e = inr (rw is refl, later (kept (option_to_list a) _ n e))

first : (from : ℕ) (lines : List (List ℕ)) (n : ℕ) → fault_in (reading from lines) ≡ Some n → IsFirstBad from lines n
first from [] n e = cc
first from (line ∷ lines) n e = by_meaning (line_means line) from line lines n refl (first (from + 1) lines n) e

pub fault_is_first : FaultIsFirst
fault_is_first bytes n e = first 1 (lines_of bytes) n e
