-- The set of parts that are listed, and whether all of some are there.
use Rattle.std.proofs.Common.{◌≡◌, ℕ, suc, zero, ◌+◌, ◌<◌, List, [], ◌∷◌, length, take, get_or, Bool, true, false, cond, refl, ap, ap₂, sym, ◌∙◌, arith, add-one, inl, inr}
use Rattle.std.specs.Prelude.{◌==◌, ◌&&◌, ◌||◌}
use Rattle.std.specs.Ordering.{nat_cmp, ordering_then, is_eq}
use Rattle.std.specs.Cmp.{tied_then}
use Rattle.std.specs.BTreeMap.{is_at}
use Rattle.std.specs.BTreeSet.{BTreeSet, Updates}
use Rattle.std.proofs.Math.Seq.{take-suc}
use Rattle.std.proofs.lemmas.List.Folds.{list_any-append}
use Rattle.std.proofs.lemmas.Bool.Decides.{nat_tests, eqb_tells}
use Rattle.dk_paths.specs.declared.log_name.LogName.{LogName}
use Rattle.dk_paths.specs.declared.log_name.LogName.TheVariants.{Commit, Classic, Part, V2Json, V2Parquet, Compacted, Hint, Other}
use Rattle.dk_listing.specs.declared.named.Named.{Named}
use Rattle.dk_listing.specs.Newest.{all_up_to, is_part, lists_part, complete_names, complete_checkpoints}
use Rattle.dk_listing.specs.Parts.{part_cmp, has_part, HasParts}

-- ---- all numbers up to one

pub all_none : (test : ℕ → Bool) → all_up_to test 0 ≡ true
unfolding all_up_to
all_none test = refl

pub all_more : (test : ℕ → Bool) (n : ℕ) → test (n + 1) ≡ true → all_up_to test n ≡ true → all_up_to test (n + 1) ≡ true
unfolding all_up_to
all_more test n here before = let one : test (suc n) ≡ true = rw add-one at here in rw (add-one n, one, before) refl

and_false : (a : Bool) → (a && false) ≡ false
and_false true = refl
and_false false = refl

pub all_fails : (test : ℕ → Bool) (n count : ℕ) → n < count → test (n + 1) ≡ false → all_up_to test count ≡ false
unfolding all_up_to
all_fails test n zero lt gone = absurd (omega arith)
all_fails test n (suc count) lt gone = elim (eqb_tells n count) [
  | inl t ↦ let same : n ≡ count = t.1 in let one : test (suc count) ≡ false = ap test (let e : suc count ≡ n + 1 = omega (arith, same) in e) ∙ gone in rw one refl
  | inr f ↦
      let apart : n ≡ count → ⊥ = f.1 in
      let less : n < count = omega arith in
      ap (λ (b : Bool). test (suc count) && b) (all_fails test n count less gone) ∙ and_false (test (suc count))
]

-- ---- the set of parts

one_same : (x w : ℕ) → is_eq (nat_cmp x w) ≡ (x == w)
one_same x w = grind (arith, nat_tests)

and_assoc : (a b c : Bool) → ((a && b) && c) ≡ (a && (b && c))
and_assoc true b c = refl
and_assoc false b c = refl

-- a part is found by its three numbers
part_same : (v ps p version parts part : ℕ) → is_at (part_cmp (v, ps, p)) (version, parts, part) ≡ (v == version && (ps == parts && p == part))
part_same v ps p version parts part =
    sym (tied_then (ordering_then (nat_cmp v version) (nat_cmp ps parts)) (nat_cmp p part))
    ∙ ap (λ (t : Bool). t && is_eq (nat_cmp p part)) (sym (tied_then (nat_cmp v version) (nat_cmp ps parts)))
    ∙ ap₂ (λ (t q : Bool). (t && q) && is_eq (nat_cmp p part)) (one_same v version) (one_same ps parts)
    ∙ ap (λ (q : Bool). ((v == version) && (ps == parts)) && q) (one_same p part)
    ∙ and_assoc (v == version) (ps == parts) (p == part)

join_last : (t a : Bool) → cond t true a ≡ (a || (t || false))
join_last true true = refl
join_last true false = refl
join_last false true = refl
join_last false false = refl

-- what one more entry lists
lists_more : (log : List Named) (place : ℕ) (named : Named) → place < length log → named ≡ get_or log place named → (version parts part : ℕ)
    → lists_part (take (place + 1) log) version parts part ≡ (lists_part (take place log) version parts part || (is_part version parts part named.name || false))
lists_more log place named lt is version parts part =
    rw (add-one place, take-suc log place named lt, ← is) (list_any-append (λ (n : Named). is_part version parts part n.name) (take place log) (named ∷ []))

-- one more that is a part
pub parts_more : (old new : BTreeSet (ℕ × ℕ × ℕ)) (log : List Named) (place : ℕ) (named : Named) (v p ps : ℕ) → place < length log → named ≡ get_or log place named
    → named.name ≡ Part v p ps → HasParts old (take place log) → Updates part_cmp old new (v, ps, p) true → HasParts new (take (place + 1) log)
parts_more old new log place named v p ps lt is read has updates = λ version parts part.
    let test : Bool = v == version && (ps == parts && p == part) in
    let now : has_part new version parts part ≡ cond test true (has_part old version parts part) =
    updates.0 (version, parts, part) ∙ ap (λ (t : Bool). cond t true (has_part old version parts part)) (part_same v ps p version parts part) in
    let seen : lists_part (take (place + 1) log) version parts part ≡ (lists_part (take place log) version parts part || (test || false)) =
    lists_more log place named lt is version parts part ∙ ap (λ (n : LogName). lists_part (take place log) version parts part || (is_part version parts part n || false)) read in
    now ∙ ap (λ (b : Bool). cond test true b) (has version parts part) ∙ join_last test (lists_part (take place log) version parts part) ∙ sym seen

or_false : (a : Bool) → (a || (false || false)) ≡ a
or_false true = refl
or_false false = refl

no_part : (name : LogName) → ((v p ps : ℕ) → name ≡ Part v p ps → ⊥) → (version parts part : ℕ) → is_part version parts part name ≡ false
no_part (Part v p ps) never version parts part = absurd (never v p ps refl)
no_part (Commit v) never version parts part = refl
no_part (Classic v) never version parts part = refl
no_part (V2Json v id) never version parts part = refl
no_part (V2Parquet v id) never version parts part = refl
no_part (Compacted first last) never version parts part = refl
no_part Hint never version parts part = refl
no_part Other never version parts part = refl

-- one more that is none
pub parts_same : (set : BTreeSet (ℕ × ℕ × ℕ)) (log : List Named) (place : ℕ) (named : Named) → place < length log → named ≡ get_or log place named
    → ((v p ps : ℕ) → named.name ≡ Part v p ps → ⊥) → HasParts set (take place log) → HasParts set (take (place + 1) log)
parts_same set log place named lt is never has = λ version parts part.
    let seen : lists_part (take (place + 1) log) version parts part ≡ lists_part (take place log) version parts part =
    lists_more log place named lt is version parts part
    ∙ ap (λ (b : Bool). lists_part (take place log) version parts part || (b || false)) (no_part named.name never version parts part)
    ∙ or_false (lists_part (take place log) version parts part) in
    has version parts part ∙ sym seen

-- ---- the checkpoints

-- a set that has the parts that are listed tells the complete checkpoints
pub complete_same : (set : BTreeSet (ℕ × ℕ × ℕ)) (log : List Named) → HasParts set log → complete_names (has_part set) log ≡ complete_checkpoints log
complete_same set log has =
    let same : has_part set ≡ lists_part log = λ i version parts part. has version parts part i in
    ap (λ (has : ℕ → ℕ → ℕ → Bool). complete_names has log) same
