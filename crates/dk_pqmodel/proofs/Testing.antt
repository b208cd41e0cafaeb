-- Steps of the loops that test the rules of a schema.
use Rattle.std.proofs.Common.{◌≡◌, ℕ, ◌≤◌, [], true, false, ◌==◌, ◌∷◌, List, length, refl}
use Rattle.dk_pqmodel.specs.NodeView.{fields_of}
use Rattle.dk_pqmodel.specs.Schema.{has_fields}
use Rattle.dk_pqmodel.specs.declared.node.Node.{Node}

-- the levels of the nodes that are left stand for those of all
pub record LevelsLeft (left all most : ℕ) : Type 0 where
  pub below : left ≤ all
  pub decides : left ≤ most → all ≤ most

pub some_fields : (ns : List Node) → (length ns == 0) ≡ false → has_fields (fields_of ns) ≡ true
some_fields [] h = cc
some_fields (n ∷ ns) h = refl
