-- Whether a column holds flags.
use Rattle.std.proofs.Common.{◌≡◌, ◌⊎◌, inl, inr, true, false, not, refl, sym, ap, ◌∙◌}
use denote.Enum.Bare.{sameb}
use Rattle.dk_pqmodel.specs.Shape as shape
use Rattle.dk_pqread.specs.LeafView.{leaf_of}
use Rattle.dk_pqread.specs.contracts.leaf.Leaf.{the_type}
use Rattle.dk_pqread.specs.declared.leaf.Leaf.{Leaf}
use Rattle.dk_pqread.specs.declared.leaf.Leaf.TheVariants.{Flag, Int32, Int64, Chars}

pub no_flag : (kind : Leaf) → false ≡ sameb the_type kind Flag → leaf_of kind ≡ shape.flag → ⊥
no_flag Flag e h = (let never : false ≡ true = e in cc)
no_flag Int32 e h = cc
no_flag Int64 e h = cc
no_flag Chars e h = cc

pub is_flag : (kind : Leaf) → false ≡ not (sameb the_type kind Flag) → leaf_of kind ≡ shape.flag
is_flag Flag e = refl
is_flag Int32 e = (let never : false ≡ true = e in cc)
is_flag Int64 e = (let never : false ≡ true = e in cc)
is_flag Chars e = (let never : false ≡ true = e in cc)

pub other_kind : (kind : Leaf) → (kind ≡ Int32) ⊎ ((kind ≡ Int64) ⊎ (kind ≡ Chars)) → leaf_of kind ≡ shape.flag → ⊥
other_kind kind (inl e) h = (let never : shape.int32 ≡ shape.flag = sym (ap leaf_of e) ∙ h in cc)
other_kind kind (inr (inl e)) h = (let never : shape.int64 ≡ shape.flag = sym (ap leaf_of e) ∙ h in cc)
other_kind kind (inr (inr e)) h = (let never : shape.chars ≡ shape.flag = sym (ap leaf_of e) ∙ h in cc)
