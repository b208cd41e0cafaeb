-- The triples of a page's parts are found, and only they.
use Rattle.std.proofs.Common.{◌≡◌, ℕ, ◌≤◌, Option, Some, None, Result, ℤ, List, ◌++◌, length, map, refl, sym, ap, subst, ◌∙◌}
use Rattle.std.specs.List.{filter_map}
use Rattle.std.proofs.lemmas.List.{length-map}
use Rattle.std.proofs.lemmas.List.Elements.{All-from_recursion, recursion_from_All}
use Rattle.dk_pqmodel.specs.Datum.{Value, Triple, Column}
use Rattle.dk_pqmodel.specs.FilePages.{ColumnAt, HoldLevels, HoldValues, HoldTriples, IsFull}
use Rattle.dk_pqmodel.specs.declared.fault.PqFault.{PqFault}
use Rattle.dk_pqmodel.specs.Pages.{Page}
use Rattle.dk_pages.specs.Split.{Parts}
use Rattle.dk_levels.specs.Answers.{GivesMeant}
use Rattle.dk_pqread.specs.Meanings.{AreLevelsOf, RefusesMeaning, Finds, full_count, zipped, triples_then}
use Rattle.dk_pqread.specs.PageMeaning.{PageHolds, PartsHold, AddsTriples}
use Rattle.dk_pqread.proofs.Finding.{refuses_by, finds_given}
use Rattle.dk_pqread.proofs.LevelLaws.{levels_once}
use Rattle.dk_pqread.proofs.PartLaws.{none_is_not_some, some_is}
use Rattle.dk_pqread.proofs.ValueLaws.{values_once}
use Rattle.dk_pqread.proofs.ValueReading.{AreValuesOf}
use Rattle.dk_pqread.proofs.Zips.{zipped_found, zipped_given, values_count}

module _ (column : ColumnAt) (dictionary : Option (List Value)) (code : ℤ) (count : ℕ) (parts : Parts) where
  abbrev Held : Column → Type 0
  Held = PartsHold column dictionary code count parts

  reps_of : (ts : Column) → Held ts → AreLevelsOf column.rep count parts.rep (map (λ e. e.repetition) ts)
  reps_of ts h = (length-map ts (λ e. e.repetition) ∙ h.count, h.held.repetitions)

  defs_of : (ts : Column) → Held ts → AreLevelsOf column.def count parts.def (map (λ e. e.definition) ts)
  defs_of ts h = (length-map ts (λ e. e.definition) ∙ h.count, h.held.definitions)

  module _ (ds : List ℕ) (defs : AreLevelsOf column.def count parts.def ds) where
    same_defs : (ts : Column) → Held ts → map (λ e. e.definition) ts ≡ ds
    same_defs ts h = (
        let mine = defs_of ts h in
        levels_once column.def parts.def (map (λ e. e.definition) ts) ds (mine.0 ∙ sym defs.0) mine.1 defs.1)

    values_of : (ts : Column) → Held ts → AreValuesOf column dictionary code (full_count column.def ds) parts.values (filter_map (λ e. e.value) ts)
    values_of ts h =
        (values_count column.def ts (recursion_from_All (IsFull column.def) ts h.held.full.0) ∙ ap (full_count column.def) (same_defs ts h), h.held.held)

    pub values_refused : (before : Column) (fault : PqFault) → RefusesMeaning fault (AreValuesOf column dictionary code (full_count column.def ds) parts.values) → RefusesMeaning fault (AddsTriples before Held)
    values_refused before fault h =
        refuses_by fault (AreValuesOf column dictionary code (full_count column.def ds) parts.values) (AddsTriples before Held) (λ y n. (filter_map (λ (e : Triple). e.value) n.0, values_of n.0 n.2)) h

    module _ (rs : List ℕ) (reps : AreLevelsOf column.rep count parts.rep rs) (vs : List Value) (values : AreValuesOf column dictionary code (full_count column.def ds) parts.values vs) where
      same_reps : (ts : Column) → Held ts → map (λ e. e.repetition) ts ≡ rs
      same_reps ts h = (
          let mine = reps_of ts h in
          levels_once column.rep parts.rep (map (λ e. e.repetition) ts) rs (mine.0 ∙ sym reps.0) mine.1 reps.1)

      same_values : (ts : Column) → Held ts → filter_map (λ e. e.value) ts ≡ vs
      same_values ts h = (
          let mine = values_of ts h in
          values_once column dictionary code parts.values (filter_map (λ e. e.value) ts) vs (mine.0 ∙ sym values.0) mine.1 values.1)

      held_is : (ts : Column) → Held ts → zipped column.rep column.def rs ds vs ≡ Some ts
      held_is ts h =
          ap (λ x. zipped column.rep column.def x ds vs) (sym (same_reps ts h))
          ∙ ap (λ x. zipped column.rep column.def (map (λ (e : Triple). e.repetition) ts) x vs) (sym (same_defs ts h))
          ∙ ap (λ x. zipped column.rep column.def (map (λ (e : Triple). e.repetition) ts) (map (λ (e : Triple). e.definition) ts) x) (sym (same_values ts h))
          ∙ zipped_given column.rep column.def ts (recursion_from_All (IsFull column.def) ts h.held.full.0) (recursion_from_All (λ (e : Triple). e.repetition ≤ column.rep) ts h.held.full.1)

      is_held : (ts : Column) → zipped column.rep column.def rs ds vs ≡ Some ts → Held ts
      is_held ts e =
          let z = zipped_found column.rep column.def rs ds vs ts e in record {
            count = sym (length-map ts (λ (e : Triple). e.repetition)) ∙ ap length z.repetitions ∙ reps.0;
            held = record {
              repetitions = subst (λ x. HoldLevels column.rep x parts.rep) (sym z.repetitions) reps.1;
              definitions = subst (λ x. HoldLevels column.def x parts.def) (sym z.definitions) defs.1;
              full = (All-from_recursion (IsFull column.def) ts z.full, All-from_recursion (λ (e : Triple). e.repetition ≤ column.rep) ts z.low);
              held = subst (λ x. HoldValues column dictionary code x parts.values) (sym z.values) values.1;
            };
          }

      added : (before after : Column) → triples_then before (zipped column.rep column.def rs ds vs) ≡ Some after → AddsTriples before Held after
      added before after h = by_zip (zipped column.rep column.def rs ds vs) refl h
        where
          by_zip : (o : Option Column) → zipped column.rep column.def rs ds vs ≡ o → triples_then before o ≡ Some after → AddsTriples before Held after
          by_zip None e g = absurd (none_is_not_some after g)
          by_zip (Some ts) e g = (ts, sym (some_is (before ++ ts) after g), is_held ts e)

      -- the triples are those of the levels and values
      pub triples_found : {X : Type 0} (view : X → Column) (result : Result X PqFault) (before : Column) → GivesMeant view result (triples_then before (zipped column.rep column.def rs ds vs)) → Finds view result (AddsTriples before Held)
      triples_found view result before h =
          finds_given view result (triples_then before (zipped column.rep column.def rs ds vs)) (AddsTriples before Held) (added before)
          (λ none y n. none_is_not_some (before ++ n.0) (sym none ∙ ap (triples_then before) (held_is n.0 n.2))) h

-- ---- a page means at most one list of triples

parts_once : (column : ColumnAt) (dictionary : Option (List Value)) (code : ℤ) (count : ℕ) (parts : Parts) (a b : Column) → PartsHold column dictionary code count parts a → PartsHold column dictionary code count parts b → a ≡ b
parts_once column dictionary code count parts a b first second =
    let ds = map (λ (e : Triple). e.definition) a in
    let defs = defs_of column dictionary code count parts a first in
    let rs = map (λ (e : Triple). e.repetition) a in
    let reps = reps_of column dictionary code count parts a first in
    let vs = filter_map (λ (e : Triple). e.value) a in
    let values = values_of column dictionary code count parts ds defs a first in
    some_is a b
    (sym (held_is column dictionary code count parts ds defs rs reps vs values a first) ∙ held_is column dictionary code count parts ds defs rs reps vs values b second)

pub page_once : (column : ColumnAt) (dictionary : Option (List Value)) (page : Page) (a b : Column) → PageHolds column dictionary page a → PageHolds column dictionary page b → a ≡ b
page_once column dictionary page a b first second =
    let same : second.parts ≡ first.parts = some_is second.parts first.parts (sym second.split ∙ first.split) in
    let other : HoldTriples column dictionary page.encoding first.parts.rep first.parts.def first.parts.values b =
    subst (λ (q : Parts). HoldTriples column dictionary page.encoding q.rep q.def q.values b) same second.held in
    parts_once column dictionary page.encoding page.values first.parts a b (record { count = first.count; held = first.held }) (record { count = second.count; held = other })
