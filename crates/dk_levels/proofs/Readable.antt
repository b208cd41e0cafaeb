-- The fields of a schema can be read.
use Rattle.std.proofs.Common.{◌≡◌, ◌+◌, ◌*◌, ◌<◌, ◌≤◌, Bool, true, false, cond, ◌&&◌, arith}
use Rattle.dk_pqmodel.specs.Shape.{Shape, leaf, group, list, map_of, Field, field, Fields, no_fields, one_field, width_of, deepest_at, deepest_in, deepest_of}
use Rattle.dk_pqmodel.specs.Schema.{has_fields, are_distinct, is_sound_shape, is_sound, are_sound, levels_at, levels_in, levels_of, IsSchema}
use Rattle.dk_levels.specs.Solid.{IsSolidShape, IsSolid, AreSolid, AreReadable}
use Rattle.dk_levels.proofs.Begins.{wide}
use Rattle.dk_levels.proofs.Takes.{both_true}

-- a first field has a column
some_wide : (fs : Fields) → has_fields fs ≡ true → AreSolid fs → 0 < width_of fs
some_wide no_fields h solid = cc
some_wide (one_field f fs) h solid = omega (arith, wide f solid.0)

mutual
  solid_shape : (s : Shape) → is_sound_shape s ≡ true → IsSolidShape s
  solid_shape (leaf l) h = tt
  solid_shape (group fs) h =
      let all = both_true (has_fields fs && are_distinct fs) (are_sound fs) h in
      let some = both_true (has_fields fs) (are_distinct fs) all.0 in
      let solid : AreSolid fs = solid_fields fs all.1 in
      (some_wide fs some.0 solid, solid)
  solid_shape (list f) h = solid_field f h
  solid_shape (map_of f) h = solid_field f h

  solid_field : (f : Field) → is_sound f ≡ true → IsSolid f
  solid_field (field name nullable s) h = solid_shape s h

  pub solid_fields : (fs : Fields) → are_sound fs ≡ true → AreSolid fs
  solid_fields no_fields h = tt
  solid_fields (one_field f fs) h =
      let both = both_true (is_sound f) (are_sound fs) h in
      (solid_field f both.0, solid_fields fs both.1)

pub optional_most : (b : Bool) → cond b 1 0 ≤ 1
optional_most true = omega arith
optional_most false = omega arith

-- A level of the schema is at most two definition levels, one of an optional field and one of a list.
mutual
  deep_shape : (s : Shape) → deepest_at s ≤ 1 + 2 * levels_at s
  deep_shape (leaf l) = omega arith
  deep_shape (group fs) = omega (arith, deep_fields fs)
  deep_shape (list f) = omega (arith, deep_field f)
  deep_shape (map_of f) = omega (arith, deep_field f)

  deep_field : (f : Field) → deepest_in f ≤ 2 * levels_in f
  deep_field (field name nullable s) = omega (arith, deep_shape s, optional_most nullable)

  pub deep_fields : (fs : Fields) → deepest_of fs ≤ 2 * levels_of fs
  deep_fields no_fields = omega arith
  deep_fields (one_field f fs) = omega (arith, deep_field f, deep_fields fs)

pub readable : (fs : Fields) → IsSchema fs → AreReadable fs
readable fs h =
    let solid : AreSolid fs = solid_fields fs h.sound in record {
      wide = some_wide fs h.some solid;
      solid = solid;
      deep = omega (arith, deep_fields fs, h.levels);
    }
