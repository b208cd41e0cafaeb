-- The first feature that a protocol asks for and that isn't written so far.
use Rattle.std.proofs.Common.{◌≡◌, List, [], ◌∷◌, ◌++◌, Bool, true, false, refl, sym, ap, ◌∙◌}
use Rattle.std.specs.Prelude.{ℕ, Option, Some, None, find, ◌==◌, if◌then◌else◌}
use Rattle.std.specs.Option.{option_or}
use Rattle.dk_model.specs.declared.action.Protocol.{Protocol}
use Rattle.dk_features.specs.InForce.{listed_features}
use Rattle.dk_model.specs.NameSets.{is_one_of}
use Rattle.dk_lawful.specs.SoFar.{awaited}
use Rattle.dk_lawful.specs.Written.{of_commits}

find_either : {X : Type 0} (test : X → Bool) (xs ys : List X) → find test (xs ++ ys) ≡ option_or (find test xs) (find test ys)
find_either test [] ys = refl
find_either test (x ∷ xs) ys = by (test x) (find_either test xs ys)
  where
    by : (b : Bool) → find test (xs ++ ys) ≡ option_or (find test xs) (find test ys) → (if b then Some x else find test (xs ++ ys)) ≡ option_or (if b then Some x else find test xs) (find test ys)
    by true rest = refl
    by false rest = rest

abbrev of_readers : Protocol → Option (List ℕ)
of_readers p = find (is_one_of of_commits) (if p.min_reader == 3 then listed_features p.reader_features else [])

abbrev of_writers : Protocol → Option (List ℕ)
of_writers p = find (is_one_of of_commits) (if p.min_writer == 7 then listed_features p.writer_features else [])

pub asks_either : (p : Protocol) (first second : Option (List ℕ)) → first ≡ of_readers p → option_or first (of_writers p) ≡ second → second ≡ awaited (Some p)
unfolding awaited
asks_either p first second is either =
    sym either ∙ ap (λ (o : Option (List ℕ)). option_or o (of_writers p)) is
    ∙ sym (find_either (is_one_of of_commits) (if p.min_reader == 3 then listed_features p.reader_features else []) (if p.min_writer == 7 then listed_features p.writer_features else []))

pub none_asks : ◌≡◌ {A = Option (List ℕ)} None (awaited None)
unfolding awaited
none_asks = refl
