-- Bytes hold so many values of an encoding in at most one way.
use Rattle.std.proofs.Common.{◌≡◌, ℕ, ◌+◌, ◌*◌, ◌<◌, ◌≤◌, Bool, true, false, inl, inr, ℤ, pos, Option, Some, None, slice_get, List, [], ◌∷◌, ◌++◌, length, map, refl, sym, ap, subst, ◌∙◌, arith}
use Rattle.std.proofs.lemmas.List.{length-append, length-map}
use Rattle.dk_grammar.specs.Plain.{bit_of, AreFlags}
use Rattle.dk_grammar.specs.Runs.{AreFirst}
use Rattle.dk_grammar.proofs.Plain.{flags_again}
use Rattle.dk_grammar.proofs.Runs.{same_front}
use Rattle.dk_pqmodel.specs.Shape.{Leaf, flag, int32, int64, chars}
use Rattle.dk_pqmodel.specs.Datum as cell
use Rattle.dk_pqmodel.specs.Datum.{Value}
use Rattle.dk_pqmodel.specs.Footer.{each_of}
use Rattle.dk_pqmodel.specs.FilePages.{ColumnAt, InPlain, InRuns, BehindWidth, ByIndices, AreAtIndices, FromDictionary, HoldValues}
use Rattle.dk_pqread.specs.Meanings.{HoldRuns}
use Rattle.dk_pqread.specs.Values.{plains_at, flag_at}
use Rattle.dk_pqread.proofs.PartLaws.{some_is, sized_given}
use Rattle.dk_pqread.proofs.PlainLaws.{plains_given}
use Rattle.dk_pqread.proofs.LevelLaws.{runs_once}
use Rattle.dk_pages.specs.Split.{sized}

abbrev Taken : Type 0
Taken = List Value × List ℕ

abbrev Cut : Type 0
Cut = List ℕ × List ℕ

first_values : (a b : List Value) (x y : List ℕ) → ◌≡◌ {A = Option Taken} (Some (a, x)) (Some (b, y)) → a ≡ b
first_values a b x y h = (let e : ◌≡◌ {A = Taken} (a, x) (b, y) = some_is {A = Taken} (a, x) (b, y) h in ap (λ (p : Taken). p.0) e)

pub first_part : (a b x y : List ℕ) → ◌≡◌ {A = Option Cut} (Some (a, x)) (Some (b, y)) → a ≡ b
first_part a b x y h = (let e : ◌≡◌ {A = Cut} (a, x) (b, y) = some_is {A = Cut} (a, x) (b, y) h in ap (λ (p : Cut). p.0) e)

no_values : (a b : List Value) → length a ≡ length b → a ≡ [] → a ≡ b
no_values a [] len none = none
no_values a (v ∷ b) len none = absurd (omega (arith, len, ap length none))

-- ---- PLAIN

plains_once : (kind : Leaf) (bytes : List ℕ) (a b : List Value) → length a ≡ length b
    → ((over : List ℕ) × (plains_at kind (length a) bytes ≡ Some (a, over))) → ((over : List ℕ) × (plains_at kind (length b) bytes ≡ Some (b, over))) → a ≡ b
plains_once kind bytes a b len first second =
    first_values a b (first.0) (second.0) (sym first.1 ∙ ap (λ n. plains_at kind n bytes) len ∙ second.1)

pub as_plains : (kind : Leaf) (values : List Value) (bytes : List ℕ) → (kind ≡ flag → ⊥) → InPlain kind values bytes → (over : List ℕ) × (plains_at kind (length values) bytes ≡ Some (values, over))
as_plains flag values bytes other h = absurd (other refl)
as_plains int32 values bytes other h = (h.1, ap (plains_at int32 (length values)) h.2 ∙ plains_given int32 h.0 values h.1 h.3)
as_plains int64 values bytes other h = (h.1, ap (plains_at int64 (length values)) h.2 ∙ plains_given int64 h.0 values h.1 h.3)
as_plains chars values bytes other h = (h.1, ap (plains_at chars (length values)) h.2 ∙ plains_given chars h.0 values h.1 h.3)

-- the bytes that flags take
pub flag_room : (flags : List Bool) (front : List ℕ) → (are : AreFlags flags front) → (length flags ≤ 8 * length front) × (8 * length front < length flags + 8)
flag_room flags front are =
    let n : length (map bit_of flags ++ are.padding) ≡ length (map bit_of flags) + length are.padding = length-append (map bit_of flags) are.padding in
    let m : length (map bit_of flags) ≡ length flags = length-map flags bit_of in
    (omega (arith, are.packed.bits, are.short), omega (arith, are.packed.bits, are.short))

flags_once : (bytes : List ℕ) (a b : List Value) → length a ≡ length b → InPlain flag a bytes → InPlain flag b bytes → a ≡ b
flags_once bytes a b len first second =
    let flags = first.0 in
    let others = second.0 in
    let count : length flags ≡ length others = sym (length-map flags cell.flag) ∙ sym (ap length first.5) ∙ len ∙ ap length second.5 ∙ length-map others cell.flag in
    let x = flag_room flags (first.1) first.4 in
    let y = flag_room others (second.1) second.4 in
    let room : length (first.1) ≡ length (second.1) = omega (arith, x.0, x.1, y.0, y.1) in
    let same = same_front (first.1) (second.1) (first.2) (second.2) room (sym first.3 ∙ second.3) in
    let flags_same : flags ≡ others = flags_again flags others (second.1) count (subst (AreFlags flags) same.0 first.4) second.4 in
    first.5 ∙ ap (map cell.flag) flags_same ∙ sym second.5

plain_once : (kind : Leaf) (bytes : List ℕ) (a b : List Value) → length a ≡ length b → InPlain kind a bytes → InPlain kind b bytes → a ≡ b
plain_once flag bytes a b len first second = flags_once bytes a b len first second
plain_once int32 bytes a b len first second = plains_once int32 bytes a b len (as_plains int32 a bytes (λ e. cc) first) (as_plains int32 b bytes (λ e. cc) second)
plain_once int64 bytes a b len first second = plains_once int64 bytes a b len (as_plains int64 a bytes (λ e. cc) first) (as_plains int64 b bytes (λ e. cc) second)
plain_once chars bytes a b len first second = plains_once chars bytes a b len (as_plains chars a bytes (λ e. cc) first) (as_plains chars b bytes (λ e. cc) second)

-- ---- RLE of flags

abbrev bits_of : List Bool → List ℕ
bits_of flags = map bit_of flags

flag_given : (b : Bool) → flag_at (bit_of b) ≡ Some (cell.flag b)
flag_given true = refl
flag_given false = refl

pub flags_given : (flags : List Bool) → each_of flag_at (bits_of flags) ≡ Some (map cell.flag flags)
flags_given [] = refl
flags_given (b ∷ bs) = rw (flag_given b, flags_given bs) refl

-- flags in runs behind their length
pub record InSized (bytes : List ℕ) (count : ℕ) (values : List Value) : Type 0 where
  pub runs : List ℕ
  pub over : List ℕ
  pub sized : sized bytes ≡ Some (runs, over)
  pub bits : List ℕ
  pub held : HoldRuns 1 count runs bits
  pub flags : each_of flag_at bits ≡ Some values

pub flag_runs : (bytes : List ℕ) (values : List Value) → InRuns flag values bytes → InSized bytes (length values) values
flag_runs bytes values h =
    let flags = h.0 in
    let stated = h.3 in
    let count : length flags ≡ length values = sym (length-map flags cell.flag) ∙ ap length (sym h.9) in
    record {
      runs = stated;
      over = h.2;
      sized = ap sized h.5 ∙ sized_given stated h.2 h.4;
      bits = bits_of flags;
      held = record { runs = h.1; over = h.6; whole = h.7; first = subst (λ n. AreFirst 1 n (bits_of flags) h.1) count h.8 };
      flags = flags_given flags ∙ ap Some (sym h.9);
    }

sized_once : (bytes : List ℕ) (count : ℕ) (a b : List Value) → InSized bytes count a → InSized bytes count b → a ≡ b
sized_once bytes count a b first second =
    let runs : first.runs ≡ second.runs = first_part first.runs second.runs first.over second.over (sym first.sized ∙ second.sized) in
    let bits = runs_once 1 count second.runs first.bits second.bits (subst (λ r. HoldRuns 1 count r first.bits) runs first.held) second.held in
    some_is a b (sym first.flags ∙ ap (each_of flag_at) bits ∙ second.flags)

in_runs_once : (kind : Leaf) (bytes : List ℕ) (a b : List Value) → length a ≡ length b → InRuns kind a bytes → InRuns kind b bytes → a ≡ b
in_runs_once flag bytes a b len first second = sized_once bytes (length b) a b (subst (λ n. InSized bytes n a) len (flag_runs bytes a first)) (flag_runs bytes b second)
in_runs_once int32 bytes a b len first second = absurd first
in_runs_once int64 bytes a b len first second = absurd first
in_runs_once chars bytes a b len first second = absurd first

-- ---- by places in a dictionary

pub picked_given : (dictionary : List Value) (indices : List ℕ) (values : List Value) → AreAtIndices dictionary indices values → each_of (λ index. slice_get dictionary index) indices ≡ Some values
picked_given dictionary [] [] h = refl
picked_given dictionary (i ∷ is) (v ∷ vs) h =
    let one : slice_get dictionary i ≡ Some v = cc in
    let rest : AreAtIndices dictionary is vs = cc in
    rw (one, picked_given dictionary is vs rest) refl
picked_given dictionary [] (v ∷ vs) h = cc
picked_given dictionary (i ∷ is) [] h = cc

pick_more : (dictionary : List Value) (i : ℕ) (is : List ℕ) (values : List Value) (o : Option Value) (r : Option (List Value)) → slice_get dictionary i ≡ o → each_of (λ index. slice_get dictionary index) is ≡ r
    → ((vs : List Value) → r ≡ Some vs → AreAtIndices dictionary is vs) → each_of (λ index. slice_get dictionary index) (i ∷ is) ≡ Some values → AreAtIndices dictionary (i ∷ is) values
pick_more dictionary i is values None r e f rest h = (let never : None ≡ Some values = rw e at h in cc)
pick_more dictionary i is values (Some v) None e f rest h = (let never : None ≡ Some values = rw (e, f) at h in cc)
pick_more dictionary i is values (Some v) (Some vs) e f rest h =
    let same : Some (v ∷ vs) ≡ Some values = rw (e, f) at h in
    let is_values : v ∷ vs ≡ values = some_is (v ∷ vs) values same in
    subst (AreAtIndices dictionary (i ∷ is)) is_values (rw e (ap (λ ys. Some v ∷ ys) (rest vs refl)))

pub picked_found : (dictionary : List Value) (indices : List ℕ) (values : List Value) → each_of (λ index. slice_get dictionary index) indices ≡ Some values → AreAtIndices dictionary indices values
picked_found dictionary [] values h = (let none : [] ≡ values = some_is [] values h in ap (map Some) none)
picked_found dictionary (i ∷ is) values h =
    pick_more dictionary i is values (slice_get dictionary i) (each_of (λ index. slice_get dictionary index) is) refl refl (λ vs e. picked_found dictionary is vs e) h

-- the places of some values
pub record AtPlaces (dictionary : List Value) (bytes : List ℕ) (count : ℕ) (values : List Value) : Type 0 where
  pub width : ℕ
  pub rest : List ℕ
  pub whole : bytes ≡ width ∷ rest
  pub narrow : width ≤ 32
  pub indices : List ℕ
  pub held : HoldRuns width count rest indices
  pub picked : each_of (λ index. slice_get dictionary index) indices ≡ Some values

pub at_places : (dictionary values : List Value) (bytes : List ℕ) → BehindWidth dictionary values bytes → AtPlaces dictionary bytes (length values) values
at_places dictionary values bytes h =
    let indices = h.3 in
    let count : length indices ≡ length values = sym (length-map indices (λ index. slice_get dictionary index)) ∙ ap length h.7 ∙ length-map values Some in
    record {
      width = h.0;
      rest = h.1 ++ h.2;
      whole = h.5;
      narrow = h.4;
      indices = indices;
      held = record { runs = h.1; over = h.2; whole = refl; first = subst (λ n. AreFirst h.0 n indices h.1) count h.6 };
      picked = picked_given dictionary indices values h.7;
    }

places_once : (dictionary : List Value) (bytes : List ℕ) (count : ℕ) (a b : List Value) → AtPlaces dictionary bytes count a → AtPlaces dictionary bytes count b → a ≡ b
places_once dictionary bytes count a b first second =
    let both : first.width ∷ first.rest ≡ second.width ∷ second.rest = sym first.whole ∙ second.whole in
    let width : first.width ≡ second.width = cc in
    let rest : first.rest ≡ second.rest = cc in
    let held : HoldRuns second.width count second.rest first.indices = subst (λ r. HoldRuns second.width count r first.indices) rest (subst (λ w. HoldRuns w count first.rest first.indices) width first.held) in
    let indices = runs_once second.width count second.rest first.indices second.indices held second.held in
    some_is a b (sym first.picked ∙ ap (each_of (λ index. slice_get dictionary index)) indices ∙ second.picked)

by_indices_once : (dictionary : List Value) (bytes : List ℕ) (a b : List Value) → length a ≡ length b → ByIndices dictionary a bytes → ByIndices dictionary b bytes → a ≡ b
by_indices_once dictionary bytes a b len (inl first) second = no_values a b len first.0
by_indices_once dictionary bytes a b len (inr first) (inl second) = sym (no_values b a (sym len) second.0)
by_indices_once dictionary bytes a b len (inr first) (inr second) =
    places_once dictionary bytes (length b) a b (subst (λ n. AtPlaces dictionary bytes n a) len (at_places dictionary a bytes first)) (at_places dictionary b bytes second)

from_dictionary_once : (kind : Leaf) (dictionary : Option (List Value)) (bytes : List ℕ) (a b : List Value) → length a ≡ length b → FromDictionary kind dictionary a bytes → FromDictionary kind dictionary b bytes → a ≡ b
from_dictionary_once flag dictionary bytes a b len first second = absurd first
from_dictionary_once int32 None bytes a b len first second = absurd first
from_dictionary_once int64 None bytes a b len first second = absurd first
from_dictionary_once chars None bytes a b len first second = absurd first
from_dictionary_once int32 (Some entries) bytes a b len first second = by_indices_once entries bytes a b len first second
from_dictionary_once int64 (Some entries) bytes a b len first second = by_indices_once entries bytes a b len first second
from_dictionary_once chars (Some entries) bytes a b len first second = by_indices_once entries bytes a b len first second

-- ---- whatever the encoding

pub values_once : (column : ColumnAt) (dictionary : Option (List Value)) (code : ℤ) (bytes : List ℕ) (a b : List Value) → length a ≡ length b
    → HoldValues column dictionary code a bytes → HoldValues column dictionary code b bytes → a ≡ b
values_once column dictionary code bytes a b len (inl first) (inl second) = plain_once column.kind bytes a b len first.1 second.1
values_once column dictionary code bytes a b len (inl first) (inr (inl second)) = (let never : pos 0 ≡ pos 3 = sym first.0 ∙ second.0 in cc)
values_once column dictionary code bytes a b len (inl first) (inr (inr (inl e, h))) = (let never : pos 0 ≡ pos 2 = sym first.0 ∙ e in cc)
values_once column dictionary code bytes a b len (inl first) (inr (inr (inr e, h))) = (let never : pos 0 ≡ pos 8 = sym first.0 ∙ e in cc)
values_once column dictionary code bytes a b len (inr (inl first)) (inl second) = (let never : pos 3 ≡ pos 0 = sym first.0 ∙ second.0 in cc)
values_once column dictionary code bytes a b len (inr (inl first)) (inr (inl second)) = in_runs_once column.kind bytes a b len first.1 second.1
values_once column dictionary code bytes a b len (inr (inl first)) (inr (inr (inl e, h))) = (let never : pos 3 ≡ pos 2 = sym first.0 ∙ e in cc)
values_once column dictionary code bytes a b len (inr (inl first)) (inr (inr (inr e, h))) = (let never : pos 3 ≡ pos 8 = sym first.0 ∙ e in cc)
values_once column dictionary code bytes a b len (inr (inr (inl e, h))) (inl second) = (let never : pos 2 ≡ pos 0 = sym e ∙ second.0 in cc)
values_once column dictionary code bytes a b len (inr (inr (inr e, h))) (inl second) = (let never : pos 8 ≡ pos 0 = sym e ∙ second.0 in cc)
values_once column dictionary code bytes a b len (inr (inr (inl e, h))) (inr (inl second)) = (let never : pos 2 ≡ pos 3 = sym e ∙ second.0 in cc)
values_once column dictionary code bytes a b len (inr (inr (inr e, h))) (inr (inl second)) = (let never : pos 8 ≡ pos 3 = sym e ∙ second.0 in cc)
values_once column dictionary code bytes a b len (inr (inr first)) (inr (inr second)) = from_dictionary_once column.kind dictionary bytes a b len first.1 second.1
