-- Triples of levels and values, one after another.
use Rattle.std.proofs.Common.{◌≡◌, ℕ, zero, suc, ◌+◌, Option, Some, None, option_and_then, slice_get, List, [], ◌∷◌, ◌++◌, drop, refl, sym, ap, ◌∙◌, add-one, append_assoc}
use Rattle.std.specs.Option.{option_map}
use Rattle.dk_pqmodel.specs.Datum.{Value, Triple, Column}
use Rattle.dk_pqmodel.specs.declared.fault.PqFault.{PqFault}
use Rattle.dk_levels.specs.Answers.{FailsMeant}
use Rattle.dk_pqread.specs.Meanings.{one_triple, zipped, triples_then}
use Rattle.dk_pqread.proofs.Failing.{fails_same}

first_then : (xs : List ℕ) (i x : ℕ) → slice_get xs i ≡ Some x → drop i xs ≡ x ∷ drop (suc i) xs
first_then [] i x h = cc
first_then (y ∷ xs) zero x h = (let same : y ≡ x = cc in ap (λ z. z ∷ xs) same)
first_then (y ∷ xs) (suc i) x h = first_then xs i x h

first_of : (xs : List ℕ) (i x : ℕ) → slice_get xs i ≡ Some x → drop i xs ≡ x ∷ drop (i + 1) xs
first_of xs i x h = rw add-one (first_then xs i x h)

one_behind : (done : Column) (e : Triple) (left : Option Column) → triples_then done (option_map (λ es. e ∷ es) left) ≡ triples_then (done ++ e ∷ []) left
one_behind done e None = refl
one_behind done e (Some more) = ap Some (sym (append_assoc done (e ∷ []) more))

abbrev Next : Type 0
Next = Triple × List Value

module _ (rep def : ℕ) (rs ds : List ℕ) (i : ℕ) (done : Column) (vs : List Value) (whole : Option Column) (left : triples_then done (zipped rep def (drop i rs) (drop i ds) vs) ≡ whole) where
  module _ (r d : ℕ) (one : slice_get rs i ≡ Some r) (other : slice_get ds i ≡ Some d) where
    opened : triples_then done (zipped rep def (r ∷ drop (i + 1) rs) (d ∷ drop (i + 1) ds) vs) ≡ whole
    opened =
        sym (ap (λ xs. triples_then done (zipped rep def xs (drop i ds) vs)) (first_of rs i r one) ∙ ap (λ xs. triples_then done (zipped rep def (r ∷ drop (i + 1) rs) xs vs)) (first_of ds i d other)) ∙ left

    pub triple_more : (e : Triple) (rest : List Value) (now : Column) → ◌≡◌ {A = Option Next} (one_triple rep def r d vs) (Some (e, rest)) → now ≡ done ++ e ∷ []
        → triples_then now (zipped rep def (drop (i + 1) rs) (drop (i + 1) ds) rest) ≡ whole
    triple_more e rest now h pushed =
        ap (λ x. triples_then x (zipped rep def (drop (i + 1) rs) (drop (i + 1) ds) rest)) pushed
        ∙ sym (one_behind done e (zipped rep def (drop (i + 1) rs) (drop (i + 1) ds) rest))
        ∙ sym (ap (λ o. triples_then done (option_and_then (λ (x : Next). option_map (λ es. x.0 ∷ es) (zipped rep def (drop (i + 1) rs) (drop (i + 1) ds) x.1)) o)) h) ∙ opened

    pub triple_fails : (fault : PqFault) → FailsMeant fault (one_triple rep def r d vs) → FailsMeant fault whole
    triple_fails fault h =
        fails_same fault (one_triple rep def r d vs) whole
        (λ e. sym opened ∙ ap (λ o. triples_then done (option_and_then (λ (x : Next). option_map (λ es. x.0 ∷ es) (zipped rep def (drop (i + 1) rs) (drop (i + 1) ds) x.1)) o)) e) h
