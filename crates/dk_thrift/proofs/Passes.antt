-- One more value passed over leaves what passing over the rest gives.
use Rattle.std.proofs.Common.{◌≡◌, ℕ, zero, suc, ◌+◌, ◌-◌, ◌<◌, ◌≤◌, true, ℤ, pos, negsuc, List, Ok, Err, refl, sym, ap, ◌∙◌, arith, FitsSigned, w16}
use Rattle.std.proofs.lemmas.Bool.{leb-true, and_parts}
use Rattle.std.proofs.Math.Numerals.{sub-one}
use Rattle.dk_grammar.specs.Thrift.{◌>>=◌, field_at, is_id}
use Rattle.dk_grammar.specs.Passed.{Rest, each, entry_passed, field_passed, fields_passed, value_passed, kind_numbered, element_passed, list_passed, map_passed, struct_passed}
use Rattle.dk_grammar.proofs.Fronts.{header_in_range}
use Rattle.dk_grammar.specs.declared.thrift.Field.TheVariants.{End, Next}
use Rattle.dk_grammar.specs.declared.thrift.Kind.{Kind}
use Rattle.dk_grammar.specs.declared.thrift.Kind.TheVariants as kinds
use Rattle.dk_grammar.specs.declared.thrift.Flaw.{Flaw}

-- a container's elements have one level less
pub list_below : (levels : ℕ) (bytes : List ℕ) → (levels ≡ 0 → ⊥) → list_passed (element_passed (levels - 1)) bytes ≡ element_passed levels kinds.List bytes
list_below zero bytes h = absurd (h refl)
list_below (suc levels) bytes h = rw sub-one refl

pub map_below : (levels : ℕ) (bytes : List ℕ) → (levels ≡ 0 → ⊥) → map_passed (element_passed (levels - 1)) bytes ≡ element_passed levels kinds.Map bytes
map_below zero bytes h = absurd (h refl)
map_below (suc levels) bytes h = rw sub-one refl

pub struct_below : (levels : ℕ) (bytes : List ℕ) → (levels ≡ 0 → ⊥) → struct_passed (element_passed (levels - 1)) bytes ≡ element_passed levels kinds.Struct bytes
struct_below zero bytes h = absurd (h refl)
struct_below (suc levels) bytes h = rw sub-one refl

left_over : (n i : ℕ) → i < n → n - i ≡ suc (n - (i + 1))
left_over n i h = omega arith

each_first : (pass : List ℕ → Rest) (n : ℕ) (bytes next : List ℕ) → pass bytes ≡ Ok next → each pass (suc n) bytes ≡ each pass n next
each_first pass n bytes next one = rw one refl

pub each_goes_on : (pass : List ℕ → Rest) (n i : ℕ) (bytes next : List ℕ) (total : Rest) → i < n → pass bytes ≡ Ok next
    → each pass (n - i) bytes ≡ total → each pass (n - (i + 1)) next ≡ total
each_goes_on pass n i bytes next total h one all =
    sym (each_first pass (n - (i + 1)) bytes next one) ∙ ap (λ m. each pass m bytes) (sym (left_over n i h)) ∙ all

pub entry_is : (pass : Kind → List ℕ → Rest) (key value : Kind) (bytes behind_key next : List ℕ) → pass key bytes ≡ Ok behind_key → pass value behind_key ≡ Ok next
    → entry_passed pass key value bytes ≡ Ok next
entry_is pass key value bytes behind_key next first second = rw first second

-- the fields from one on
module _ (pass : Kind → List ℕ → Rest) (n i : ℕ) (last : ℤ) (bytes : List ℕ) (total : Rest) (h : i < n) (all : fields_passed pass (n - i) last bytes ≡ total) where
  fields_first : total ≡ (field_at last bytes >>= λ x. field_passed pass (fields_passed pass (n - (i + 1))) x.0 x.1)
  fields_first = sym all ∙ ap (λ m. fields_passed pass m last bytes) (left_over n i h)

  pub fields_flaw : (flaw : Flaw) → field_at last bytes ≡ Err flaw → total ≡ Err flaw
  fields_flaw flaw e = fields_first ∙ rw e refl

  pub value_flaw : (id : ℤ) (kind : ℕ) (behind : List ℕ) (flaw : Flaw) → field_at last bytes ≡ Ok (Next id kind, behind) → value_passed pass (kind_numbered kind) behind ≡ Err flaw → total ≡ Err flaw
  value_flaw id kind behind flaw e v = fields_first ∙ rw (e, v) refl

  pub fields_go_on : (id : ℤ) (kind : ℕ) (behind next : List ℕ) → field_at last bytes ≡ Ok (Next id kind, behind) → value_passed pass (kind_numbered kind) behind ≡ Ok next
      → fields_passed pass (n - (i + 1)) id next ≡ total
  fields_go_on id kind behind next e v = sym (fields_first ∙ rw (e, v) refl)

  pub fields_end : (behind : List ℕ) → field_at last bytes ≡ Ok (End, behind) → total ≡ Ok behind
  fields_end behind e = fields_first ∙ rw e refl

le-lt-suc : (n : ℕ) → n ≤ 32767 → n < 32768
le-lt-suc n h = omega arith

-- an id has 16 bits
id_fits : (id : ℤ) → is_id id ≡ true → FitsSigned w16 id
id_fits (pos n) h = record { sfits = le-lt-suc n (leb-true n 32767 h) }
id_fits (negsuc n) h = record { sfits = le-lt-suc n (leb-true n 32767 (and_parts _ _ h).0) }

pub field_id : (last : ℤ) (bytes : List ℕ) (id : ℤ) (kind : ℕ) (behind : List ℕ) → field_at last bytes ≡ Ok (Next id kind, behind) → FitsSigned w16 id
field_id last bytes id kind behind e = id_fits id (header_in_range last bytes (Next id kind, behind) e).0
