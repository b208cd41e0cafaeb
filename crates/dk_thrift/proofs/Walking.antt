-- A walk along the fields of a struct, field by field.
use Rattle.std.proofs.Common.{◌≡◌, ℕ, suc, ◌+◌, ◌-◌, ◌<◌, ℤ, Option, Some, None, Result, Ok, Err, IsErr, List, [], ◌∷◌, ◌++◌, refl, sym, ap, subst, ◌∙◌, append_assoc, arith}
use Rattle.std.proofs.lemmas.List.{append-nil}
use Rattle.dk_grammar.specs.Thrift.{Front, ◌>>=◌, field_at}
use Rattle.dk_grammar.specs.declared.thrift.Field.{Field}
use Rattle.dk_grammar.specs.declared.thrift.Field.TheVariants.{End, Next}
use Rattle.dk_grammar.specs.declared.thrift.Flaw.{Flaw}
use Rattle.dk_thrift.specs.Reading.{Reading, last_behind}
use Rattle.dk_grammar.specs.Structs.{FieldValues, Meaning, under, value_then_fields, fields_from}
use Rattle.dk_thrift.specs.Walks.{after, Walks}

left_over : (n i : ℕ) → i < n → n - i ≡ suc (n - (i + 1))
left_over n i h = omega arith

-- a flaw stays one, whatever would follow
pub flaw_stays : {A B : Type 0} (r : Result A Flaw) (f : A → Result B Flaw) → IsErr r → IsErr (r >>= f)
flaw_stays (Ok x) f h = cc
flaw_stays (Err flaw) f h = refl

under_more : {V : Type 0} (done : FieldValues V) (id : ℤ) (value : Option V) (more : FieldValues V) → done ++ under id value more ≡ (done ++ under id value []) ++ more
under_more done id None more = ap (λ xs. xs ++ more) (sym (append-nil done))
under_more done id (Some x) more = sym (append_assoc done ((id, x) ∷ []) more)

one_done : {V : Type 0} (done : FieldValues V) (id : ℤ) (value : Option V) (front : Front (FieldValues V))
    → after done (front >>= λ more. Ok (under id value more.0, more.1)) ≡ after (done ++ under id value []) front
one_done done id value (Ok more) = ap (λ xs. Ok (xs, more.1)) (under_more done id value more.0)
one_done done id value (Err flaw) = refl

module _ {V X : Type 0} (meaning : Meaning V) (view : FieldValues V → X) (n i : ℕ) (old now : Reading) (x : X) (whole : Front (FieldValues V)) (h : i < n) (w : Walks meaning view (n - i) old now x whole) where
  first : after w.done (field_at now.last now.rest >>= λ y. value_then_fields meaning (fields_from meaning (n - (i + 1))) y.0 y.1) ≡ whole
  first = ap (λ m. after w.done (fields_from meaning m now.last now.rest)) (sym (left_over n i h)) ∙ w.left

  pub header_flaw : (flaw : Flaw) → field_at now.last now.rest ≡ Err flaw → IsErr whole
  header_flaw flaw e = subst (λ r. IsErr r) first (rw e refl)

  pub walk_ends : (field : Field) (behind : List ℕ) → field_at now.last now.rest ≡ Ok (field, behind) → field ≡ End → whole ≡ Ok (w.done, behind)
  walk_ends field behind e f = sym first ∙ rw (e, f) (ap (λ done. Ok (done, behind)) (append-nil w.done))

  module _ (field : Field) (id : ℤ) (kind : ℕ) (mid : Reading) (e : field_at now.last now.rest ≡ Ok (field, mid.rest)) (f : field ≡ Next id kind) where
    pub value_flaw : IsErr (meaning id kind mid.rest) → IsErr whole
    value_flaw flaw =
        subst (λ r. IsErr r) first
        (rw (e, f) (flaw_stays (meaning id kind mid.rest >>= λ y. fields_from meaning (n - (i + 1)) id y.1 >>= λ more. Ok (under id y.0 more.0, more.1)) (λ y. Ok (w.done ++ y.0, y.1)) (flaw_stays (meaning id kind mid.rest) _ flaw)))

    pub walk_goes_on : (value : Option V) (next : Reading) (y : X) → meaning id kind mid.rest ≡ Ok (value, next.rest) → mid ≡ record now { rest = mid.rest; last = last_behind now.last field }
        → next ≡ record mid { rest = next.rest } → y ≡ view (w.done ++ under id value []) → Walks meaning view (n - (i + 1)) old next y whole
    walk_goes_on value next y m r s v = record {
      done = w.done ++ under id value [];
      seen = v;
      left =
          rw (ap (λ reading. reading.last) s ∙ ap (λ reading. reading.last) r ∙ ap (λ field. last_behind now.last field) f)
          (sym (one_done w.done id value (fields_from meaning (n - (i + 1)) id next.rest)) ∙ (rw (e, f, m) at first));
      size = ap (λ reading. reading.size) s ∙ ap (λ reading. reading.size) r ∙ w.size;
    }
