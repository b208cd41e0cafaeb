-- Steps over the lists of the code, seen as plain data.
use Rattle.std.proofs.Common.{◌≡◌, ℕ, zero, suc, ◌<◌, List, [], ◌∷◌, ◌++◌, length, get_or, set, map, inl, inr, ◌⊎◌, ap, arith, Vec, Global}
use Rattle.std.proofs.lemmas.List.{append-nil, map-append}
use Rattle.dk_pqmodel.specs.Shape.{width_at}
use Rattle.dk_pqmodel.specs.NodeView.{shape_of}
use Rattle.dk_levels.specs.Borrowed.{borrowed_columns, borrowed_column, borrowed_triple}
use Rattle.dk_levels.specs.declared.borrowed.BorrowedTriple.{BorrowedTriple}
use Rattle.dk_pqmodel.specs.declared.node.NodeKind.{NodeKind, Flag, Int32, Int64, Chars}
use Rattle.dk_levels.specs.Places.{Adds}
use Rattle.dk_pqmodel.proofs.NodeViews.{shape_of-Flag, shape_of-Int32, shape_of-Int64, shape_of-Chars}
use Rattle.dk_levels.proofs.Joins.{joined-nothing}

-- a push to one column
pub pushed : (cs : List (Vec BorrowedTriple Global)) (i : ℕ) (d new : Vec BorrowedTriple Global) (t : BorrowedTriple)
    → i < length cs → new.items ≡ (get_or cs i d).items ++ t ∷ [] → Adds i cs (set cs i new) ((borrowed_triple t ∷ []) ∷ [])
pushed [] i d new t h e = absurd (omega arith)
pushed (c ∷ cs) zero d new t h e =
    cc (joined-nothing (borrowed_columns cs), map-append borrowed_triple c.items (t ∷ []), ap (map borrowed_triple) e)
pushed (c ∷ cs) (suc i) d new t h e = cc (append-nil (borrowed_column c), pushed cs i d new t (omega arith) e)

pub width_of_leaf : (k : NodeKind) → (k ≡ Flag) ⊎ ((k ≡ Int32) ⊎ ((k ≡ Int64) ⊎ (k ≡ Chars))) → width_at (shape_of k) ≡ 1
width_of_leaf k (inl e) = rw e (ap width_at shape_of-Flag)
width_of_leaf k (inr (inl e)) = rw e (ap width_at shape_of-Int32)
width_of_leaf k (inr (inr (inl e))) = rw e (ap width_at shape_of-Int64)
width_of_leaf k (inr (inr (inr e))) = rw e (ap width_at shape_of-Chars)
