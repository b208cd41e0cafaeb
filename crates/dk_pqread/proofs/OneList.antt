-- A file means at most one list of rows.
use Rattle.std.proofs.Common.{◌≡◌, ℕ, Bool, true, false, List, [], ◌∷◌, length, refl, sym, ap, ap₂, subst, ◌∙◌, arith}
use Rattle.std.specs.List.{All}
use Rattle.std.proofs.lemmas.List.Elements.{All-head, All-tail}
use Rattle.dk_levels.proofs.Again.{one_solid_reading}
use Rattle.dk_levels.proofs.Cuts.{projected_is_solid}
use Rattle.dk_pqmodel.specs.Shape.{Fields, no_fields, root}
use Rattle.dk_pqmodel.specs.Datum.{Datum, null, atom, group, list, Cells, no_cells, one_cell, Column}
use Rattle.dk_pqmodel.specs.FileSchema.{FileNodes}
use Rattle.dk_pqmodel.specs.Fits.{Matches, AreRowsOf, AreTriplesOf}
use Rattle.dk_pqmodel.specs.Footer.{RowGroup, Footer}
use Rattle.dk_pqmodel.specs.Projection.{missing, value, members, elements, entries, Plans, no_plans, one_plan, all_missing, projection, projected_fields, rows_widened}
use Rattle.dk_pqmodel.specs.FileMeans.{columns_of, rows_in, HasRows, HaveRows, all_rows, MeansOneList}
use Rattle.dk_pqmeta.proofs.Footers.{one_footer}
use Rattle.dk_pqmeta.proofs.Framing.{framed_once}
use Rattle.dk_pqread.proofs.Before.{front_is}
use Rattle.dk_pqread.proofs.DistinctPaths.{HasDistinctPaths, groups_distinct}
use Rattle.dk_pqread.proofs.Groups.{columns_once}
use Rattle.dk_pqread.proofs.PartLaws.{some_is}

-- ---- where the file has nothing that is wanted, rows are empty groups, so many as the group says

pub projected_missing : (ps : Plans) → all_missing ps ≡ true → projected_fields ps ≡ no_fields
projected_missing no_plans e = refl
projected_missing (one_plan missing ps) e = projected_missing ps e
projected_missing (one_plan (value b l path) ps) e = cc
projected_missing (one_plan (members b qs) ps) e = cc
projected_missing (one_plan (elements b p) ps) e = cc
projected_missing (one_plan (entries b k path p) ps) e = cc

empty_row : (c : Datum) → Matches c (root no_fields) → c ≡ group no_cells
empty_row null h = cc
empty_row (atom v) h = absurd h
empty_row (group no_cells) h = refl
empty_row (group (one_cell c cs)) h = absurd h
empty_row (list cs) h = absurd h

pub empty_rows_once : (rows others : Cells) → AreRowsOf no_fields rows → AreRowsOf no_fields others → rows_in rows ≡ rows_in others → rows ≡ others
empty_rows_once no_cells no_cells first second count = refl
empty_rows_once no_cells (one_cell d ds) first second count = absurd (omega arith)
empty_rows_once (one_cell c cs) no_cells first second count = absurd (omega arith)
empty_rows_once (one_cell c cs) (one_cell d ds) first second count =
    ap₂ one_cell (empty_row c first.0 ∙ sym (empty_row d second.0)) (empty_rows_once cs ds first.1 second.1 (omega arith))

-- ---- the rows of a group, and of all groups

module _ (wanted : Fields) (nodes : FileNodes) where
  rows_once : (rows others : Cells) (columns : List Column) → AreTriplesOf (projected_fields (projection wanted nodes)) rows columns → AreTriplesOf (projected_fields (projection wanted nodes)) others columns
      → rows_in rows ≡ rows_in others → rows ≡ others
  rows_once rows others columns first second count = by (all_missing (projection wanted nodes)) refl
    where
      by : (lacks : Bool) → all_missing (projection wanted nodes) ≡ lacks → rows ≡ others
      by true e =
          let none = projected_missing (projection wanted nodes) e in
          empty_rows_once rows others (subst (λ fields. AreRowsOf fields rows) none first.0) (subst (λ fields. AreRowsOf fields others) none second.0) count
      by false e =
          let cut = projected_is_solid wanted nodes e in
          one_solid_reading (projected_fields (projection wanted nodes)) rows others columns cut.wide cut.solid first second

  module _ (before : List ℕ) where
    share_once : (g : RowGroup) (rows others : Cells) → HasDistinctPaths g → HasRows before (projection wanted nodes) g rows → HasRows before (projection wanted nodes) g others → rows ≡ others
    share_once g rows others distinct first second =
        let same : first.columns ≡ second.columns =
        columns_once before g distinct (columns_of (projection wanted nodes) 0 0) first.columns second.columns first.held second.held in
        rows_once rows others second.columns (subst (λ columns. AreTriplesOf (projected_fields (projection wanted nodes)) rows columns) same first.triples) second.triples (first.count ∙ sym second.count)

    shares_once : (groups : List RowGroup) (shares others : List Cells) → All HasDistinctPaths groups → HaveRows before (projection wanted nodes) groups shares
        → HaveRows before (projection wanted nodes) groups others → shares ≡ others
    shares_once [] [] [] distinct first second = refl
    shares_once [] [] (y ∷ ys) distinct first second = absurd second
    shares_once [] (x ∷ xs) others distinct first second = absurd first
    shares_once (g ∷ gs) [] others distinct first second = absurd first
    shares_once (g ∷ gs) (x ∷ xs) [] distinct first second = absurd second
    shares_once (g ∷ gs) (x ∷ xs) (y ∷ ys) distinct first second =
        ap₂ (λ z zs. z ∷ zs) (share_once g x y (All-head HasDistinctPaths g gs distinct) first.0 second.0)
        (shares_once gs xs ys (All-tail HasDistinctPaths g gs distinct) first.1 second.1)

-- ---- the file

pub one_list : MeansOneList
one_list wanted bytes rows others first second =
    let part_is : first.part ≡ second.part = framed_once bytes first.before first.part second.before second.part first.framed second.framed in
    let before_is : first.before ≡ second.before =
    sym (front_is bytes first.before first.part first.framed (length first.part) refl) ∙ front_is bytes second.before second.part second.framed (length first.part) (ap length part_is) in
    let footer_is : first.footer ≡ second.footer =
    one_footer bytes first.footer second.footer (first.before, first.part, first.framed, first.spelled) (second.before, second.part, second.framed, second.spelled) in
    let held : HaveRows second.before (projection wanted second.footer.fields) second.footer.groups first.shares =
    subst (λ (f : Footer). HaveRows second.before (projection wanted f.fields) f.groups first.shares) footer_is
    (subst (λ before. HaveRows before (projection wanted first.footer.fields) first.footer.groups first.shares) before_is first.held) in
    let shares_are : first.shares ≡ second.shares =
    shares_once wanted second.footer.fields second.before second.footer.groups first.shares second.shares (groups_distinct second.part second.footer second.spelled) held second.held in
    some_is rows others
    (sym first.widened ∙ ap₂ (λ (f : Footer) shares. rows_widened (projection wanted f.fields) (all_rows shares)) footer_is shares_are ∙ second.widened)
