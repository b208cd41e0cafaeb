-- Levels that are above their greatest and plain values that have no room are refused, and only they.
use Rattle.std.proofs.Common.{◌≡◌, ◌==◌, ℕ, zero, suc, ◌+◌, ◌*◌, ◌<◌, ◌≤◌, nat_lt, Bool, true, false, cond, IsTrue, inl, inr, ℤ, pos, Option, Some, Result, Ok, Err, List, [], ◌∷◌, ◌++◌, length, map, replicate, refl, sym, ap, subst, ◌∙◌, arith}
use Rattle.std.specs.Prelude.{IfErr}
use Rattle.std.specs.List.{AllByRecursion, count_by, filter_map}
use Rattle.std.proofs.Math.Nat.{mul-suc, mul-zero}
use Rattle.std.proofs.lemmas.Bool.{eq-eqb, le-leb, lt-ltb, ltb-true}
use Rattle.std.proofs.lemmas.List.{length-append, length-map}
use Rattle.std.proofs.lemmas.List.Elements.{All-map, All-from_recursion, recursion_from_All}
use Rattle.std.proofs.lemmas.List.Sums.{count_by-le-length, sum_by-cons}
use Rattle.dk_grammar.specs.Plain.{Plain, plain_bytes, plain_values, complement, little}
use Rattle.dk_grammar.specs.Plain as plain
use Rattle.dk_grammar.proofs.Digits.{length-digits_of}
use Rattle.dk_grammar.specs.Runs.{AreFirst}
use Rattle.dk_hybrid.specs.Runs.{GivesValues}
use Rattle.dk_hybrid.specs.declared.fault.HybridFault.{HybridFault}
use Rattle.dk_hybrid.specs.declared.fault.HybridFault.TheVariants.{Width, Short, OutOfMemory}
use Rattle.dk_pqmodel.specs.Datum as cell
use Rattle.dk_pqmodel.specs.Datum.{Value, Triple, Column}
use Rattle.dk_pqmodel.specs.FilePages.{ColumnAt, IsPlainOf, ArePlainOf, HoldTriples, HoldValues, InPlain, IsFull, IsWidth}
use Rattle.dk_pqmodel.specs.Pages.{Page}
use Rattle.dk_pqmodel.specs.Shape.{Leaf, flag, int32, int64, chars}
use Rattle.dk_pqmodel.specs.declared.fault.PqFault.{PqFault}
use Rattle.dk_pages.specs.Split.{Parts, split_of}
use Rattle.dk_pqread.specs.Meanings.{AreLevelsOf, RefusesMeaning, fault_of, full_count}
use Rattle.dk_pqread.specs.Room.{AreWithin, InParts, Sieves, has_room}
use Rattle.dk_pqread.specs.Starts.{OnPage}
use Rattle.dk_pqread.proofs.Finding.{refuses_by}
use Rattle.dk_pqread.proofs.LevelLaws.{levels_runs}
use Rattle.dk_pqread.proofs.PartLaws.{some_is}
use Rattle.dk_pqread.proofs.ValueLaws.{flag_room}
use Rattle.dk_pqread.proofs.Zips.{values_count}

-- ---- runs that are refused

-- where something is given of whatever is meant, a fault says that nothing is, or that memory was wanting
pub refused_by : {X Y Z : Type 0} (view : X → Z) (fault : HybridFault) (M : Y → Type 0) → ((y : Y) → M y → (meant : Z) × GivesValues view (Err fault) meant) → RefusesMeaning (fault_of fault) M
refused_by view Width M h = λ y m. (h y m).1
refused_by view Short M h = λ y m. (h y m).1
refused_by view OutOfMemory M h = tt

-- ---- levels

-- where the greatest is 0 all are
zeros_only : (count : ℕ) → AllByRecursion (λ level. level ≤ 0) (replicate count 0)
zeros_only zero = tt
zeros_only (suc n) = (omega arith, zeros_only n)

zeros_within : (greatest count : ℕ) (bytes levels : List ℕ) → greatest ≡ 0 → AreLevelsOf greatest count bytes levels → AllByRecursion (λ level. level ≤ 0) levels
zeros_within greatest count bytes levels none (len, inl h) = subst (AllByRecursion (λ level. level ≤ 0)) (sym h.1) (zeros_only (length levels))
zeros_within greatest count bytes levels none (len, inr h) = absurd (omega (arith, h.0, none))

pub none_above : (greatest count : ℕ) (bytes levels : List ℕ) → greatest ≡ 0 → AreLevelsOf greatest count bytes levels → AreWithin greatest levels
none_above greatest count bytes levels none are =
    subst (λ n. AreWithin n levels) (sym none) (All-from_recursion (λ level. level ≤ 0) levels (zeros_within greatest count bytes levels none are))

-- where all are equal to the wanted one, each is counted
all_counted : (wanted : ℕ) (levels : List ℕ) → AllByRecursion (λ level. level ≤ 0) levels → wanted ≤ 0 → count_by (λ level. level == wanted) levels ≡ length levels
all_counted wanted [] all none = refl
all_counted wanted (l ∷ ls) all none =
    let first : (l == wanted) ≡ true = eq-eqb l wanted (omega (arith, all.0, none)) in
    let step = sum_by-cons (λ level. cond (level == wanted) 1 0) l ls in
    let one : ◌≡◌ {A = ℕ} (cond (l == wanted) 1 0) 1 = rw first refl in
    omega (arith, step, one, all_counted wanted ls all.1 none)

pub zeros_counted : (greatest wanted count : ℕ) (bytes levels : List ℕ) → greatest ≡ 0 → wanted ≤ greatest → AreLevelsOf greatest count bytes levels → count_by (λ level. level == wanted) levels ≡ count
zeros_counted greatest wanted count bytes levels none few are = all_counted wanted levels (zeros_within greatest count bytes levels none are) (omega (arith, none, few)) ∙ are.0

abbrev pub below_in : ℕ → List ℕ → ℕ
below_in bound levels = count_by (λ level. nat_lt level bound) levels

below_counted : (greatest : ℕ) (levels : List ℕ) → AllByRecursion (λ level. level ≤ greatest) levels → below_in (greatest + 1) levels ≡ length levels
below_counted greatest [] all = refl
below_counted greatest (l ∷ ls) all =
    let first : nat_lt l (greatest + 1) ≡ true = lt-ltb l (greatest + 1) (omega (arith, all.0)) in
    let step = sum_by-cons (λ level. cond (nat_lt level (greatest + 1)) 1 0) l ls in
    let one : ◌≡◌ {A = ℕ} (cond (nat_lt l (greatest + 1)) 1 0) 1 = rw first refl in
    omega (arith, step, one, below_counted greatest ls all.1)

more_below : (greatest l : ℕ) (ls : List ℕ) (b : Bool) → nat_lt l (greatest + 1) ≡ b → below_in (greatest + 1) (l ∷ ls) ≡ length (l ∷ ls) → l ≤ greatest × (below_in (greatest + 1) ls ≡ length ls)
more_below greatest l ls true is all =
    let step = sum_by-cons (λ level. cond (nat_lt level (greatest + 1)) 1 0) l ls in
    let one : ◌≡◌ {A = ℕ} (cond (nat_lt l (greatest + 1)) 1 0) 1 = rw is refl in
    let low : l < greatest + 1 = ltb-true l (greatest + 1) is in
    (omega (arith, low), omega (arith, step, one, all))
more_below greatest l ls false is all =
    let step = sum_by-cons (λ level. cond (nat_lt level (greatest + 1)) 1 0) l ls in
    let none : ◌≡◌ {A = ℕ} (cond (nat_lt l (greatest + 1)) 1 0) 0 = rw is refl in
    absurd (omega (arith, step, none, all, count_by-le-length (λ level. nat_lt level (greatest + 1)) ls))

counted_below : (greatest : ℕ) (levels : List ℕ) → below_in (greatest + 1) levels ≡ length levels → AllByRecursion (λ level. level ≤ greatest) levels
counted_below greatest [] all = tt
counted_below greatest (l ∷ ls) all =
    let first = more_below greatest l ls (nat_lt l (greatest + 1)) refl all in
    (first.0, counted_below greatest ls first.1)

pub all_below : (greatest : ℕ) (levels : List ℕ) → below_in (greatest + 1) levels ≡ length levels → AreWithin greatest levels
all_below greatest levels all = All-from_recursion (λ level. level ≤ greatest) levels (counted_below greatest levels all)

pub within_below : (greatest : ℕ) (levels : List ℕ) → AreWithin greatest levels → below_in (greatest + 1) levels ≡ length levels
within_below greatest levels all = below_counted greatest levels (recursion_from_All (λ level. level ≤ greatest) levels all)

-- ---- the bytes that plain values take

-- how many bytes at least
abbrev size_of : Leaf → ℕ
size_of flag = 0
size_of int32 = 4
size_of int64 = 8
size_of chars = 4

one_size : (kind : Leaf) (p : Plain) (v : Value) → IsPlainOf kind p v → size_of kind ≤ length (plain_bytes p)
one_size int32 (plain.int32 z) (cell.int y) is = omega (arith, length-digits_of 256 4 (complement 4 z))
one_size int64 (plain.int64 z) (cell.int y) is = omega (arith, length-digits_of 256 8 (complement 8 z))
one_size chars (plain.chars text) (cell.chars t) is = omega (arith, length-append (little 4 (length text)) text, length-digits_of 256 4 (length text))
one_size kind p v is = absurd is

sizes : (kind : Leaf) (ps : List Plain) (vs : List Value) → ArePlainOf kind ps vs → size_of kind * length vs ≤ length (plain_values ps)
sizes kind [] [] are = omega (arith, mul-zero (size_of kind))
sizes kind (p ∷ ps) (v ∷ vs) are =
    omega (arith, mul-suc (size_of kind) (length vs), one_size kind p v are.1, sizes kind ps vs are.2, length-append (plain_bytes p) (plain_values ps))
sizes kind [] (v ∷ vs) are = absurd are
sizes kind (p ∷ ps) [] are = absurd are

in_front : (front over bytes : List ℕ) → bytes ≡ front ++ over → length front ≤ length bytes
in_front front over bytes whole = omega (arith, ap length whole, length-append front over)

-- plain values have room where they stand
pub room_there : (kind : Leaf) (values : List Value) (bytes : List ℕ) → InPlain kind values bytes → has_room kind (length values) (length bytes) ≡ true
room_there flag values bytes h =
    let room = flag_room h.0 h.1 h.4 in
    let count : length values ≡ length h.0 = ap length h.5 ∙ length-map h.0 cell.flag in
    le-leb (length values) (8 * length bytes) (omega (arith, room.0, count, in_front h.1 h.2 bytes h.3))
room_there int32 values bytes h = le-leb (4 * length values) (length bytes) (omega (arith, sizes int32 h.0 values h.3, in_front (plain_values h.0) h.1 bytes h.2))
room_there int64 values bytes h = le-leb (8 * length values) (length bytes) (omega (arith, sizes int64 h.0 values h.3, in_front (plain_values h.0) h.1 bytes h.2))
room_there chars values bytes h = le-leb (4 * length values) (length bytes) (omega (arith, sizes chars h.0 values h.3, in_front (plain_values h.0) h.1 bytes h.2))

-- ---- levels by what counting tells

-- what is answered of the first values of runs
abbrev pub Told : ℕ → ℕ → List ℕ → Result ℕ HybridFault → (List ℕ → ℕ) → Type 0
Told width count bytes result number = (values front rest : List ℕ) → AreFirst width count values front → bytes ≡ front ++ rest → GivesValues (λ n. n) result (number values)

module _ (greatest width count : ℕ) (bytes : List ℕ) (some : 0 < greatest) (is : IsWidth greatest width) where
  of_levels : (result : Result ℕ HybridFault) (number : List ℕ → ℕ) → Told width count bytes result number → (levels : List ℕ) → AreLevelsOf greatest count bytes levels → GivesValues (λ n. n) result (number levels)
  of_levels result number told levels are =
      let held = levels_runs greatest width count bytes levels some is are.0 are.1 in
      told levels held.runs held.over held.first held.whole

  pub levels_told : (n : ℕ) (number : List ℕ → ℕ) → Told width count bytes (Ok n) number → (levels : List ℕ) → AreLevelsOf greatest count bytes levels → number levels ≡ n
  levels_told n number told levels are = sym (of_levels (Ok n) number told levels are)

  pub levels_refused : (fault : HybridFault) (number : List ℕ → ℕ) → Told width count bytes (Err fault) number → RefusesMeaning (fault_of fault) (AreLevelsOf greatest count bytes)
  levels_refused fault number told = refused_by (λ n. n) fault (AreLevelsOf greatest count bytes) (λ levels are. (number levels, of_levels (Err fault) number told levels are))

  module _ (below : ℕ) (told : Told width count bytes (Ok below) (below_in (greatest + 1))) where
    pub levels_low : below ≡ count → (levels : List ℕ) → AreLevelsOf greatest count bytes levels → AreWithin greatest levels
    levels_low all levels are = all_below greatest levels (levels_told below (below_in (greatest + 1)) told levels are ∙ all ∙ sym are.0)

    pub levels_above : (below ≡ count → ⊥) → (levels : List ℕ) → AreLevelsOf greatest count bytes levels × AreWithin greatest levels → ⊥
    levels_above differs levels h = differs (sym (levels_told below (below_in (greatest + 1)) told levels h.0) ∙ within_below greatest levels h.1 ∙ h.0.0)

-- what can't be levels can't be levels that pass
pub sieved : {Y : Type 0} (fault : PqFault) (Means Passes : Y → Type 0) → RefusesMeaning fault Means → RefusesMeaning fault (λ y. Means y × Passes y)
sieved {Y} fault Means Passes h = refuses_by fault Means (λ (y : Y). Means y × Passes y) (λ y m. (y, m.0)) h

-- ---- what triples in the parts have

low_definitions : (def : ℕ) (es : Column) → AllByRecursion (IsFull def) es → AllByRecursion (λ level. level ≤ def) (map (λ (e : Triple). e.definition) es)
low_definitions def [] all = tt
low_definitions def (e ∷ es) all = (all.0.0, low_definitions def es all.1)

plainly : (column : ColumnAt) (dictionary : Option (List Value)) (code : ℤ) (values : List Value) (bytes : List ℕ) → code ≡ pos 0 → HoldValues column dictionary code values bytes → InPlain column.kind values bytes
plainly column dictionary code values bytes is (inl h) = h.1
plainly column dictionary code values bytes is (inr (inl h)) = (let never : pos 0 ≡ pos 3 = sym is ∙ h.0 in cc)
plainly column dictionary code values bytes is (inr (inr (inl two, h))) = (let never : pos 0 ≡ pos 2 = sym is ∙ two in cc)
plainly column dictionary code values bytes is (inr (inr (inr eight, h))) = (let never : pos 0 ≡ pos 8 = sym is ∙ eight in cc)

module _ (column : ColumnAt) (code : ℤ) (count : ℕ) (parts : Parts) where
  abbrev Held : Column → Type 0
  Held = InParts column code count parts

  abbrev pub Roomy : List ℕ → Type 0
  Roomy levels = IsTrue (has_room column.kind (full_count column.def levels) (length parts.values))

  reps_of : (es : Column) → Held es → AreLevelsOf column.rep count parts.rep (map (λ (e : Triple). e.repetition) es)
  reps_of es h = (length-map es (λ (e : Triple). e.repetition) ∙ h.1.count, h.1.held.repetitions)

  defs_of : (es : Column) → Held es → AreLevelsOf column.def count parts.def (map (λ (e : Triple). e.definition) es)
  defs_of es h = (length-map es (λ (e : Triple). e.definition) ∙ h.1.count, h.1.held.definitions)

  low_of : (es : Column) → Held es → AreWithin column.rep (map (λ (e : Triple). e.repetition) es)
  low_of es h = All-map (λ level. level ≤ column.rep) (λ (e : Triple). e.repetition) es h.1.held.full.1

  full_of : (es : Column) → Held es → AllByRecursion (IsFull column.def) es
  full_of es h = recursion_from_All (IsFull column.def) es h.1.held.full.0

  within_of : (es : Column) → Held es → AreWithin column.def (map (λ (e : Triple). e.definition) es)
  within_of es h = All-from_recursion (λ level. level ≤ column.def) (map (λ (e : Triple). e.definition) es) (low_definitions column.def es (full_of es h))

  room_of : code ≡ pos 0 → (es : Column) → Held es → Roomy (map (λ (e : Triple). e.definition) es)
  room_of is es h =
      let values = filter_map (λ (e : Triple). e.value) es in
      let there = room_there column.kind values parts.values (plainly column h.0 code values parts.values is h.1.held.held) in
      subst (λ n. IsTrue (has_room column.kind n (length parts.values))) (values_count column.def es (full_of es h)) there

  pub reps_refuse : (fault : PqFault) → RefusesMeaning fault (λ levels. AreLevelsOf column.rep count parts.rep levels × AreWithin column.rep levels) → RefusesMeaning fault Held
  reps_refuse fault h =
      refuses_by fault (λ (levels : List ℕ). AreLevelsOf column.rep count parts.rep levels × AreWithin column.rep levels) Held (λ es m. (map (λ (e : Triple). e.repetition) es, (reps_of es m, low_of es m))) h

  pub defs_refuse : (fault : PqFault) → RefusesMeaning fault (λ levels. AreLevelsOf column.def count parts.def levels × AreWithin column.def levels) → RefusesMeaning fault Held
  defs_refuse fault h =
      refuses_by fault (λ (levels : List ℕ). AreLevelsOf column.def count parts.def levels × AreWithin column.def levels) Held (λ es m. (map (λ (e : Triple). e.definition) es, (defs_of es m, within_of es m))) h

  module _ (is : code ≡ pos 0) where
    room_refuses : (fault : PqFault) → RefusesMeaning fault (λ levels. AreLevelsOf column.def count parts.def levels × Roomy levels) → RefusesMeaning fault Held
    room_refuses fault h =
        refuses_by fault (λ (levels : List ℕ). AreLevelsOf column.def count parts.def levels × Roomy levels) Held (λ es m. (map (λ (e : Triple). e.definition) es, (defs_of es m, room_of is es m))) h

    pub sieved_by_room : (result : Result (Unit {0}) PqFault) → Sieves result (AreLevelsOf column.def count parts.def) Roomy → IfErr result (λ fault. RefusesMeaning fault Held)
    sieved_by_room (Ok _) h = tt
    sieved_by_room (Err fault) h = room_refuses fault h

-- ---- a page

-- where the parts hold no triples, the page doesn't
pub page_refused : (column : ColumnAt) (page : Page) (parts : Parts) → split_of column.rep column.def page ≡ Some parts → (fault : PqFault) → RefusesMeaning fault (InParts column page.encoding page.values parts)
    → RefusesMeaning fault (OnPage column page)
page_refused column page parts split fault h =
    refuses_by fault (InParts column page.encoding page.values parts) (OnPage column page)
    (λ es on. (
    let holds = on.1 in
    let same : holds.parts ≡ parts = some_is holds.parts parts (sym holds.split ∙ split) in
    (es, (on.0, record { count = holds.count; held = subst (λ (p : Parts). HoldTriples column on.0 page.encoding p.rep p.def p.values es) same holds.held }))))
    h
