-- Columns that are turned one after the other.
use Rattle.std.proofs.Common.{◌≡◌, ℕ, zero, suc, ◌+◌, ◌<◌, ◌≤◌, List, [], ◌∷◌, reverse, length, get_or, set, map, refl, sym, ap, ◌∙◌, arith, add-one, Vec, Global}
use Rattle.std.proofs.lemmas.List.{reverse-reverse}
use Rattle.dk_pqmodel.specs.Datum.{Column}
use Rattle.dk_pqmodel.specs.ColumnView.{triple_of, columns_of}
use Rattle.dk_pqmodel.specs.declared.columns.Triple.{Triple}
use Rattle.dk_levels.specs.Fronts.{fronts, front_of}

-- the first so many are turned, the others aren't
abbrev pub turned : ℕ → List (Vec Triple Global) → List Column
turned zero cs = columns_of cs
turned (suc n) [] = []
turned (suc n) (v ∷ cs) = front_of v ∷ turned n cs

turned_suc : (cs : List (Vec Triple Global)) (i : ℕ) (d new : Vec Triple Global) → i < length cs → new.items ≡ reverse (get_or cs i d).items
    → turned (suc i) (set cs i new) ≡ turned i cs
turned_suc [] i d new h e = absurd (omega arith)
turned_suc (c ∷ cs) zero d new h e =
    ap (λ x. x ∷ columns_of cs) (ap (λ x. map triple_of (reverse x)) e ∙ ap (map triple_of) (reverse-reverse c.items))
turned_suc (c ∷ cs) (suc i) d new h e = ap (λ x. front_of c ∷ x) (turned_suc cs i d new (omega arith) e)

pub turned_one : (cs : List (Vec Triple Global)) (i : ℕ) (d new : Vec Triple Global) (total : List Column) → i < length cs → new.items ≡ reverse (get_or cs i d).items
    → turned i cs ≡ total → turned (i + 1) (set cs i new) ≡ total
turned_one cs i d new total h e p = rw add-one (turned_suc cs i d new h e ∙ p)

pub turned_all : (cs : List (Vec Triple Global)) (i : ℕ) (total : List Column) → length cs ≤ i → turned i cs ≡ total → fronts cs ≡ total
turned_all cs i total h p = sym (all cs i h) ∙ p
  where
    all : (cs : List (Vec Triple Global)) (i : ℕ) → length cs ≤ i → turned i cs ≡ fronts cs
    all [] zero h = refl
    all [] (suc i) h = refl
    all (c ∷ cs) zero h = absurd (omega arith)
    all (c ∷ cs) (suc i) h = ap (λ x. front_of c ∷ x) (all cs i (omega arith))
