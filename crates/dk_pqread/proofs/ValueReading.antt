-- Values of each encoding are found, and only they.
use Rattle.std.proofs.Common.{◌≡◌, ℕ, ◌+◌, ◌*◌, ◌≤◌, ◌<◌, inl, inr, ℤ, Option, Some, None, Result, slice_get, List, Vec, Global, [], ◌∷◌, ◌++◌, length, map, take, refl, sym, ap, subst, ◌∙◌, arith}
use Rattle.std.proofs.lemmas.List.{length-append, length-map}
use Rattle.std.proofs.lemmas.Bool.{le-leb}
use Rattle.dk_grammar.specs.Plain.{Plain, plain_values, bit_of}
use Rattle.dk_grammar.specs.Runs.{AreFirst}
use Rattle.dk_grammar.proofs.Bodies.{AreBytes}
use Rattle.dk_grammar.proofs.Runs.{first_length}
use Rattle.dk_pqmodel.specs.Shape.{Leaf, flag, int32, int64, chars}
use Rattle.dk_pqmodel.specs.Datum as cell
use Rattle.dk_pqmodel.specs.Datum.{Value}
use Rattle.dk_pqmodel.specs.ColumnView.{value_of}
use Rattle.dk_pqmodel.specs.declared.columns.Value as code
use Rattle.dk_pqmodel.specs.Footer.{each_of}
use Rattle.dk_pqmodel.specs.FilePages.{ColumnAt, ArePlainOf, InPlain, InRuns, AreAtIndices, ByIndices, FromDictionary, HoldValues}
use Rattle.dk_pqmodel.specs.declared.fault.PqFault.{PqFault}
use Rattle.dk_pages.specs.Split.{sized}
use Rattle.dk_levels.specs.Answers.{FailsMeant, GivesMeant}
use Rattle.dk_pqread.specs.Meanings.{HoldRuns, RefusesMeaning, Finds}
use Rattle.dk_pqread.specs.Values.{bits_in, flag_of, flags_at, plains_at, flag_at}
use Rattle.dk_pqread.proofs.Bits.{is_one, flags_stand, flags_found}
use Rattle.dk_pqread.proofs.Finding.{refuses_by, fails_refuses, finds_given}
use Rattle.dk_pqread.proofs.LevelLaws.{runs_once}
use Rattle.dk_pqread.proofs.PartLaws.{none_is_not_some, sized_found}
use Rattle.dk_pqread.proofs.PlainLaws.{plains_found}
use Rattle.dk_pqread.proofs.ValueLaws.{as_plains, flag_room, first_part, InSized, flag_runs, AtPlaces, at_places, picked_found}

-- values as plain data
abbrev pub values_in : Vec code.Value Global → List Value
values_in values = map value_of values.items

-- ---- PLAIN

abbrev pub ArePlainly : Leaf → ℕ → List ℕ → List Value → Type 0
ArePlainly kind count bytes values = (length values ≡ count) × InPlain kind values bytes

too_many_flags : (count : ℕ) (bytes : List ℕ) → flags_at count bytes ≡ None → (values : List Value) → ArePlainly flag count bytes values → ⊥
too_many_flags count bytes none values m =
    let flags = m.1.0 in
    let front = m.1.1 in
    let over = m.1.2 in
    let room = flag_room flags front m.1.4 in
    let whole : length bytes ≡ length front + length over = ap length m.1.3 ∙ length-append front over in
    let long : length values ≡ length flags = ap length m.1.5 ∙ length-map flags cell.flag in
    let enough : count ≤ 8 * length bytes = omega (arith, m.0, room.0) in
    let some : flags_at count bytes ≡ Some (map flag_of (take count (bits_in bytes))) = rw (le-leb count (8 * length bytes) enough) refl in
    none_is_not_some _ (sym none ∙ some)

pub plain_flags_found : {X : Type 0} (view : X → List Value) (result : Result X PqFault) (count : ℕ) (bytes : List ℕ) → AreBytes bytes → GivesMeant view result (flags_at count bytes) → Finds view result (ArePlainly flag count bytes)
plain_flags_found view result count bytes small h =
    finds_given view result (flags_at count bytes) (ArePlainly flag count bytes) (λ values e. flags_stand count bytes values small e) (too_many_flags count bytes) h

as_in_plain : (kind : Leaf) (values : List Value) (bytes over : List ℕ) (plains : List Plain) → (kind ≡ flag → ⊥) → bytes ≡ plain_values plains ++ over → ArePlainOf kind plains values → InPlain kind values bytes
as_in_plain flag values bytes over plains other whole are = absurd (other refl)
as_in_plain int32 values bytes over plains other whole are = (plains, over, whole, are)
as_in_plain int64 values bytes over plains other whole are = (plains, over, whole, are)
as_in_plain chars values bytes over plains other whole are = (plains, over, whole, are)

pub plains_stand : (kind : Leaf) (count : ℕ) (bytes over : List ℕ) (values : List Value) → (kind ≡ flag → ⊥) → AreBytes bytes → plains_at kind count bytes ≡ Some (values, over) → ArePlainly kind count bytes values
plains_stand kind count bytes over values other small h =
    let found = plains_found kind count bytes over values small h in
    (found.count, as_in_plain kind values bytes over found.ps other found.whole found.are)

pub plains_refused : (kind : Leaf) (count : ℕ) (bytes : List ℕ) (fault : PqFault) → (kind ≡ flag → ⊥) → FailsMeant fault (plains_at kind count bytes) → RefusesMeaning fault (ArePlainly kind count bytes)
plains_refused kind count bytes fault other h =
    fails_refuses fault (plains_at kind count bytes) (ArePlainly kind count bytes)
    (λ none values m.
    let given = as_plains kind values bytes other m.1 in
    none_is_not_some (values, given.0) (sym none ∙ ap (λ n. plains_at kind n bytes) (sym m.0) ∙ given.1))
    h

-- ---- RLE of flags

abbrev pub AreInRuns : Leaf → ℕ → List ℕ → List Value → Type 0
AreInRuns kind count bytes values = (length values ≡ count) × InRuns kind values bytes

module _ (bytes : List ℕ) (count : ℕ) where
  in_sized : (values : List Value) → AreInRuns flag count bytes values → InSized bytes count values
  in_sized values m = subst (λ n. InSized bytes n values) m.0 (flag_runs bytes values m.1)

  module _ (runs over : List ℕ) (cut : sized bytes ≡ Some (runs, over)) where
    abbrev Bits : List Value → Type 0
    Bits values = (bits : List ℕ) × (HoldRuns 1 count runs bits) × (each_of flag_at bits ≡ Some values)

    bits_held : (values : List Value) → AreInRuns flag count bytes values → Bits values
    bits_held values m =
        let s = in_sized values m in
        let same : s.runs ≡ runs = first_part s.runs runs s.over over (sym s.sized ∙ cut) in
        (s.bits, subst (λ r. HoldRuns 1 count r s.bits) same s.held, s.flags)

    pub flag_runs_refused : (fault : PqFault) → RefusesMeaning fault (HoldRuns 1 count runs) → RefusesMeaning fault (AreInRuns flag count bytes)
    flag_runs_refused fault h = refuses_by fault (HoldRuns 1 count runs) (AreInRuns flag count bytes) (λ values m. (let b = bits_held values m in (b.0, b.1))) h

    module _ (bits : List ℕ) (held : HoldRuns 1 count runs bits) where
      flags_of_bits : AreBytes bytes → (values : List Value) → each_of flag_at bits ≡ Some values → AreInRuns flag count bytes values
      flags_of_bits small values e =
          let found = flags_found bits values e in
          let place = sized_found bytes runs over small cut in
          let flags = map is_one bits in
          let long : length flags ≡ count = length-map bits is_one ∙ first_length 1 count bits held.runs held.first in
          let first : AreFirst 1 (length flags) (map bit_of flags) held.runs =
          subst (λ xs. AreFirst 1 (length flags) xs held.runs) (sym found.0) (subst (λ n. AreFirst 1 n bits held.runs) (sym long) held.first) in
          (ap length found.1 ∙ length-map flags cell.flag ∙ long, (flags, held.runs, over, runs, place.0, place.1, held.over, held.whole, first, found.1))

      other_bits : each_of flag_at bits ≡ None → (values : List Value) → AreInRuns flag count bytes values → ⊥
      other_bits none values m =
          let b = bits_held values m in
          let same : bits ≡ b.0 = runs_once 1 count runs bits b.0 held b.1 in
          none_is_not_some values (sym none ∙ ap (each_of flag_at) same ∙ b.2)

      pub flag_runs_found : {X : Type 0} (view : X → List Value) (result : Result X PqFault) → AreBytes bytes → GivesMeant view result (each_of flag_at bits) → Finds view result (AreInRuns flag count bytes)
      flag_runs_found view result small h = finds_given view result (each_of flag_at bits) (AreInRuns flag count bytes) (flags_of_bits small) other_bits h

-- ---- places in a dictionary

abbrev pub AreFromDictionary : Leaf → Option (List Value) → ℕ → List ℕ → List Value → Type 0
AreFromDictionary kind dictionary count bytes values = (length values ≡ count) × FromDictionary kind dictionary values bytes

as_dictionary : (kind : Leaf) (entries values : List Value) (bytes : List ℕ) → (kind ≡ flag → ⊥) → ByIndices entries values bytes → FromDictionary kind (Some entries) values bytes
as_dictionary flag entries values bytes other h = absurd (other refl)
as_dictionary int32 entries values bytes other h = h
as_dictionary int64 entries values bytes other h = h
as_dictionary chars entries values bytes other h = h

as_indices : (kind : Leaf) (entries values : List Value) (bytes : List ℕ) → FromDictionary kind (Some entries) values bytes → ByIndices entries values bytes
as_indices flag entries values bytes h = absurd h
as_indices int32 entries values bytes h = h
as_indices int64 entries values bytes h = h
as_indices chars entries values bytes h = h

module _ (kind : Leaf) (other : kind ≡ flag → ⊥) (entries : List Value) (bytes : List ℕ) (count : ℕ) where
  module _ (empty : bytes ≡ []) where
    pub nothing_there : count ≡ 0 → AreFromDictionary kind (Some entries) count bytes []
    nothing_there none = (sym none, as_dictionary kind entries [] bytes other (inl (refl, empty)))

    pub byte_lacks : (count ≡ 0 → ⊥) → (values : List Value) → AreFromDictionary kind (Some entries) count bytes values → ⊥
    byte_lacks some values m = by_form (as_indices kind entries values bytes m.1)
      where
        by_form : ByIndices entries values bytes → ⊥
        by_form (inl none) = some (sym m.0 ∙ ap length none.0)
        by_form (inr h) = (let never : [] ≡ h.0 ∷ (h.1 ++ h.2) = sym empty ∙ h.5 in cc)

  module _ (width : ℕ) (rest : List ℕ) (whole : bytes ≡ width ∷ rest) where
    abbrev Indices : List Value → Type 0
    Indices values = (indices : List ℕ) × (HoldRuns width count rest indices) × (each_of (λ index. slice_get entries index) indices ≡ Some values)

    at : (values : List Value) → AreFromDictionary kind (Some entries) count bytes values → AtPlaces entries bytes count values
    at values m = by_form (as_indices kind entries values bytes m.1)
      where
        by_form : ByIndices entries values bytes → AtPlaces entries bytes count values
        by_form (inl none) = (let never : [] ≡ width ∷ rest = sym none.1 ∙ whole in cc)
        by_form (inr h) = subst (λ n. AtPlaces entries bytes n values) m.0 (at_places entries values bytes h)

    indices_held : (values : List Value) → AreFromDictionary kind (Some entries) count bytes values → Indices values
    indices_held values m =
        let a = at values m in
        let both : a.width ∷ a.rest ≡ width ∷ rest = sym a.whole ∙ whole in
        let widths : a.width ≡ width = cc in
        let rests : a.rest ≡ rest = cc in
        (a.indices, subst (λ r. HoldRuns width count r a.indices) rests (subst (λ w. HoldRuns w count a.rest a.indices) widths a.held), a.picked)

    pub too_wide : 32 < width → (values : List Value) → AreFromDictionary kind (Some entries) count bytes values → ⊥
    too_wide wide values m =
        let a = at values m in
        let both : a.width ∷ a.rest ≡ width ∷ rest = sym a.whole ∙ whole in
        let widths : a.width ≡ width = cc in
        omega (arith, wide, widths, a.narrow)

    pub indices_refused : (fault : PqFault) → RefusesMeaning fault (HoldRuns width count rest) → RefusesMeaning fault (AreFromDictionary kind (Some entries) count bytes)
    indices_refused fault h =
        refuses_by fault (HoldRuns width count rest) (AreFromDictionary kind (Some entries) count bytes) (λ values m. (let i = indices_held values m in (i.0, i.1))) h

    module _ (indices : List ℕ) (held : HoldRuns width count rest indices) where
      entries_at : width ≤ 32 → (values : List Value) → each_of (λ index. slice_get entries index) indices ≡ Some values → AreFromDictionary kind (Some entries) count bytes values
      entries_at narrow values e =
          let are : AreAtIndices entries indices values = picked_found entries indices values e in
          let indices_long : length indices ≡ count = first_length width count indices held.runs held.first in
          let long : length values ≡ length indices = sym (length-map values Some) ∙ sym (ap length are) ∙ length-map indices (λ index. slice_get entries index) in
          let first : AreFirst width (length indices) indices held.runs = subst (λ n. AreFirst width n indices held.runs) (sym indices_long) held.first in
          (long ∙ indices_long, as_dictionary kind entries values bytes other (inr (width, held.runs, held.over, indices, narrow, whole ∙ ap (λ r. width ∷ r) held.whole, first, are)))

      other_indices : each_of (λ index. slice_get entries index) indices ≡ None → (values : List Value) → AreFromDictionary kind (Some entries) count bytes values → ⊥
      other_indices none values m =
          let i = indices_held values m in
          let same : indices ≡ i.0 = runs_once width count rest indices i.0 held i.1 in
          none_is_not_some values (sym none ∙ ap (each_of (λ index. slice_get entries index)) same ∙ i.2)

      pub indices_found : {X : Type 0} (view : X → List Value) (result : Result X PqFault) → width ≤ 32 → GivesMeant view result (each_of (λ index. slice_get entries index) indices)
          → Finds view result (AreFromDictionary kind (Some entries) count bytes)
      indices_found view result narrow h = finds_given view result (each_of (λ index. slice_get entries index) indices) (AreFromDictionary kind (Some entries) count bytes) (entries_at narrow) other_indices h

-- ---- by the code of the encoding

module _ (column : ColumnAt) (dictionary : Option (List Value)) (code : ℤ) (count : ℕ) (bytes : List ℕ) where
  abbrev pub AreValuesOf : List Value → Type 0
  AreValuesOf values = (length values ≡ count) × HoldValues column dictionary code values bytes
