-- Whether a schema has column invariants (Delta Lake's PROTOCOL.md, "Column Invariants"): somewhere in its text an object that is the
-- value of a key `metadata` has the key `delta.invariants`.
use Rattle.std.specs.Prelude.{ℕ, List, Bool, true, false, ◌&&◌, ◌||◌, Option, Some, None, is_some, codes}
use Rattle.std.specs.Str.{bytes_eq}
use Rattle.serde_json.specs.Data.{Data, null, boolean, number, string, array, object, Items, no_items, item, Members, no_members, member}
use Rattle.serde_json.specs.Read.{read}
use Rattle.serde_json.specs.Find.{get}

-- the value of this key is an object with invariants
abbrev pub is_invariant : List ℕ → Data → Bool
is_invariant key d = bytes_eq key (codes "metadata") && is_some (get (codes "delta.invariants") d)

abbrev mutual
  pub has_invariants : Data → Bool
  has_invariants null = false
  has_invariants (boolean b) = false
  has_invariants (number n) = false
  has_invariants (string s) = false
  has_invariants (array ds) = items_have_invariants ds
  has_invariants (object ms) = members_have_invariants ms

  pub items_have_invariants : Items → Bool
  items_have_invariants no_items = false
  items_have_invariants (item d ds) = has_invariants d || items_have_invariants ds

  pub members_have_invariants : Members → Bool
  members_have_invariants no_members = false
  members_have_invariants (member key d ms) = (is_invariant key d || has_invariants d) || members_have_invariants ms

abbrev pub may_have : Option Data → Bool
may_have None = true
may_have (Some d) = has_invariants d

-- a text that isn't JSON may have some
abbrev pub uses_invariants : List ℕ → Bool
uses_invariants schema = may_have (read schema)
