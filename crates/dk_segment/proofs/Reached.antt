-- One more compacted file in the map of those that reach furthest, and that each goes on.
use Rattle.std.proofs.Common.{◌≡◌, ℕ, ◌+◌, ◌<◌, ◌≤◌, List, [], ◌∷◌, length, take, get_or, Bool, true, false, cond, if◌then◌else◌, refl, sym, ap, subst, ◌∙◌, arith, inl, inr}
use Rattle.std.specs.Prelude.{Option, Some, None, IfSome, All, nat_le, ◌==◌, ◌&&◌}
use Rattle.std.specs.List.{AllByRecursion}
use Rattle.std.specs.Ordering.{nat_cmp}
use Rattle.std.specs.BTreeMap.{BTreeMap, get}
use Rattle.std.specs.BTreeMap as tree
use Rattle.std.proofs.lemmas.Bool.{eqb-true, ltb-true, leb-true}
use Rattle.std.proofs.lemmas.Bool.Decides.{eqb_tells}
use Rattle.std.proofs.lemmas.List.Elements.{recursion_from_All, All-weaker}
use Rattle.dk_paths.specs.declared.log_name.LogName.{LogName}
use Rattle.dk_paths.specs.declared.log_name.LogName.TheVariants as names
use Rattle.dk_lawful.specs.declared.segment.Checkpoints.{Checkpoints}
use Rattle.dk_lawful.specs.declared.segment.Checkpoints.TheVariants.{No, Newest, AtMost}
use Rattle.dk_listing.specs.declared.named.Named.{Named}
use Rattle.dk_listing.specs.Newest.{later, newest_by, is_rising, checkpoint_version}
use Rattle.dk_segment.specs.Places.{if_choice_allows, allowed_version, compacted_of, reached_by_name, HasReaches, WidensReach, AddsReach, AreReached}
use Rattle.dk_segment.proofs.Best.{later_right, newest_more, newest_has}
use Rattle.dk_segment.proofs.Sets.{one_same}

-- ---- one more

pub widened : (old new : BTreeMap ℕ ℕ) (first last furthest : ℕ) → Some furthest ≡ later (get nat_cmp old first) (Some last) → tree.Updates nat_cmp old new first (Some furthest) → WidensReach old new first last
widened old new first last furthest is updates = λ w.
    let now : get nat_cmp new w ≡ cond (first == w) (Some furthest) (get nat_cmp old w) =
    updates.0 w ∙ ap (λ (t : Bool). cond t (Some furthest) (get nat_cmp old w)) (one_same first w) in
    elim (eqb_tells first w) [
      | inl t ↦
          now ∙ ap (λ (b : Bool). cond b (Some furthest) (get nat_cmp old w)) t.0 ∙ is
          ∙ ap (λ (v : ℕ). later (get nat_cmp old v) (Some last)) t.1
          ∙ ap (λ (b : Bool). later (get nat_cmp old w) (if b then Some last else None)) (sym t.0)
      | inr f ↦
          now ∙ ap (λ (b : Bool). cond b (Some furthest) (get nat_cmp old w)) f.0 ∙ sym (later_right (get nat_cmp old w))
          ∙ ap (λ (b : Bool). later (get nat_cmp old w) (if b then Some last else None)) (sym f.0)
    ]

abbrev at_first : ℕ → Option (ℕ × ℕ) → Option ℕ
at_first version None = None
at_first version (Some covers) = if covers.0 == version then Some covers.1 else None

reached_at : (asked version : ℕ) (name : LogName) → reached_by_name asked version name ≡ at_first version (compacted_of asked name)
reached_at asked version (names.Compacted first last) = by (first == version) (nat_le last asked) refl
  where
    by : (own within : Bool) → (first == version) ≡ own → (if own && within then Some last else None) ≡ at_first version (if within then Some (first, last) else None)
    by true true is = ap (λ (b : Bool). if b then Some last else None) (sym is)
    by true false is = refl
    by false true is = ap (λ (b : Bool). if b then Some last else None) (sym is)
    by false false is = refl
reached_at asked version (names.Commit v) = refl
reached_at asked version (names.Classic v) = refl
reached_at asked version (names.Part v part parts) = refl
reached_at asked version (names.V2Json v id) = refl
reached_at asked version (names.V2Parquet v id) = refl
reached_at asked version names.Hint = refl
reached_at asked version names.Other = refl

pub adds_one : (old new : BTreeMap ℕ ℕ) (name : LogName) (asked first last : ℕ) → Some (first, last) ≡ compacted_of asked name → WidensReach old new first last → AddsReach old new name asked
adds_one old new name asked first last is widens = λ w.
    widens w ∙ ap (later (get nat_cmp old w)) (ap (at_first w) is ∙ sym (reached_at asked w name))

pub adds_none : (old : BTreeMap ℕ ℕ) (name : LogName) (asked : ℕ) → None ≡ compacted_of asked name → AddsReach old old name asked
adds_none old name asked is = λ w.
    sym (later_right (get nat_cmp old w)) ∙ ap (later (get nat_cmp old w)) (ap (at_first w) is ∙ sym (reached_at asked w name))

pub reaches_more : (old new : BTreeMap ℕ ℕ) (log : List Named) (asked place : ℕ) (named : Named) → place < length log → named ≡ get_or log place named
    → HasReaches old (take place log) asked → AddsReach old new named.name asked → HasReaches new (take (place + 1) log) asked
reaches_more old new log asked place named lt is has adds = λ w.
    adds w ∙ ap (λ (o : Option ℕ). later o (reached_by_name asked w named.name)) (has w)
    ∙ sym (newest_more (λ (n : Named). reached_by_name asked w n.name) log place named lt is)

-- ---- each goes on

one_reached : (asked version : ℕ) (name : LogName) → is_rising name ≡ true → IfSome (reached_by_name asked version name) (λ last. (version < last) × (last ≤ asked))
one_reached asked version (names.Compacted first last) rises = by (first == version) (nat_le last asked) refl refl
  where
    by : (own within : Bool) → (first == version) ≡ own → nat_le last asked ≡ within → IfSome (if own && within then Some last else None) (λ last. (version < last) × (last ≤ asked))
    by true true is most =
        let same : first ≡ version = eqb-true first version is in
        let less : first < last = ltb-true first last rises in
        (omega (arith, same, less), leb-true last asked most)
    by true false is most = tt
    by false true is most = tt
    by false false is most = tt
one_reached asked version (names.Commit v) rises = tt
one_reached asked version (names.Classic v) rises = tt
one_reached asked version (names.Part v part parts) rises = tt
one_reached asked version (names.V2Json v id) rises = tt
one_reached asked version (names.V2Parquet v id) rises = tt
one_reached asked version names.Hint rises = tt
one_reached asked version names.Other rises = tt

pub are_reached : (reaches : BTreeMap ℕ ℕ) (log : List Named) (asked : ℕ) → All (λ named. is_rising named.name ≡ true) log → HasReaches reaches log asked → AreReached reaches asked
are_reached reaches log asked rising has = λ version last is.
    let all = newest_has (λ last. (version < last) × (last ≤ asked)) (λ (n : Named). reached_by_name asked version n.name) log
    (recursion_from_All (λ (n : Named). IfSome (reached_by_name asked version n.name) (λ last. (version < last) × (last ≤ asked))) log
    (All-weaker (λ (n : Named). is_rising n.name ≡ true) (λ (n : Named). IfSome (reached_by_name asked version n.name) (λ last. (version < last) × (last ≤ asked))) (λ n rises. one_reached asked version n.name rises) log rising)) in
    subst (λ (o : Option ℕ). IfSome o (λ last. (version < last) × (last ≤ asked))) (sym (has version) ∙ is) all

-- ---- the version of the base

one_within : (allowed : Checkpoints) (asked : ℕ) (found : Option ℕ) → IfSome (if_choice_allows allowed asked found) (λ v. v ≤ asked)
one_within allowed asked None = tt
one_within No asked (Some version) = tt
one_within Newest asked (Some version) = by (nat_le version asked) refl
  where
    by : (within : Bool) → nat_le version asked ≡ within → IfSome (if within then Some version else None) (λ v. v ≤ asked)
    by true is = leb-true version asked is
    by false is = tt
one_within (AtMost most) asked (Some version) = by (nat_le version asked) (nat_le version most) refl
  where
    by : (within low : Bool) → nat_le version asked ≡ within → IfSome (if within && low then Some version else None) (λ v. v ≤ asked)
    by true true is = leb-true version asked is
    by true false is = tt
    by false true is = tt
    by false false is = tt

all_within : (allowed : Checkpoints) (asked : ℕ) (names : List LogName) → AllByRecursion (λ name. IfSome (allowed_version allowed asked name) (λ v. v ≤ asked)) names
all_within allowed asked [] = tt
all_within allowed asked (name ∷ rest) = (one_within allowed asked (checkpoint_version name), all_within allowed asked rest)

pub allowed_within : (allowed : Checkpoints) (asked : ℕ) (names : List LogName) → IfSome (newest_by (allowed_version allowed asked) names) (λ v. v ≤ asked)
allowed_within allowed asked names = newest_has (λ v. v ≤ asked) (allowed_version allowed asked) names (all_within allowed asked names)
