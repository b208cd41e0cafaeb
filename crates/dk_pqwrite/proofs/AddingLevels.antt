-- Levels that are left out, and the levels of a data page's body.
use Rattle.std.proofs.Common.{◌≡◌, ◌+◌, ◌*◌, ℕ, ◌≤◌, ◌++◌, List, [], ◌∷◌, length, map, replicate, inl, refl, sym, ap, ◌∙◌, arith}
use Rattle.std.specs.List.{All}
use Rattle.std.proofs.lemmas.List.{append-nil, length-append, length-map}
use Rattle.std.proofs.lemmas.List.Elements.{All-head, All-tail}
use Rattle.dk_pqmodel.specs.Datum.{Column, Triple}
use Rattle.dk_pqwrite.specs.AddedLevels.{AddsLevels}
use Rattle.dk_pqwrite.specs.DataPages.{HoldBoth}
use Rattle.dk_pqwrite.specs.declared.column.LeafColumn.{LeafColumn}

all_zero : (levels : List ℕ) → All (λ level. level ≤ 0) levels → levels ≡ replicate (length levels) 0
all_zero [] h = refl
all_zero (level ∷ levels) h =
    let none : level ≡ 0 = (let first : level ≤ 0 = All-head (λ n. n ≤ 0) level levels h in omega arith) in
    rw none (ap (λ more. 0 ∷ more) (all_zero levels (All-tail (λ n. n ≤ 0) level levels h)))

pub no_levels : (greatest : ℕ) (levels old : List ℕ) → greatest ≡ 0 → All (λ level. level ≤ greatest) levels → AddsLevels greatest levels old old
no_levels greatest levels old none within = record {
  part = [];
  runs = [];
  added = sym (append-nil old);
  sized = inl (none, refl, refl);
  held = inl (none, all_zero levels (rw none at within));
  size = omega arith;
}

pub both_levels : (column : LeafColumn) (entries : Column) (old mid new : List ℕ) → old ≡ [] → AddsLevels column.rep (map (λ (e : Triple). e.repetition) entries) old mid
    → AddsLevels column.def (map (λ (e : Triple). e.definition) entries) mid new → HoldBoth column entries new
both_levels column entries old mid new none first later =
    let whole : new ≡ first.part ++ later.part = later.added ∙ ap (λ front. front ++ later.part) (first.added ∙ ap (λ front. front ++ first.part) none) in record {
      rep_part = first.part;
      def_part = later.part;
      rep = first.runs;
      def = later.runs;
      whole = whole;
      rep_sized = first.sized;
      def_sized = later.sized;
      repetitions = first.held;
      definitions = later.held;
      size =
          let counted : length new ≡ length first.part + length later.part = ap length whole ∙ length-append first.part later.part in
          let reps : length (map (λ (e : Triple). e.repetition) entries) ≡ length entries = length-map entries (λ (e : Triple). e.repetition) in
          let defs : length (map (λ (e : Triple). e.definition) entries) ≡ length entries = length-map entries (λ (e : Triple). e.definition) in
          let some : length first.part ≤ 44 + 5 * length entries = rw (sym reps) first.size in
          let more : length later.part ≤ 44 + 5 * length entries = rw (sym defs) later.size in
          omega arith;
    }
