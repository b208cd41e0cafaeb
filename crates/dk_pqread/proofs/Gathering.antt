-- The wanted rows of groups, one group behind another.
use Rattle.std.proofs.Common.{◌≡◌, ℕ, zero, suc, ◌+◌, ◌<◌, List, [], ◌∷◌, ◌++◌, length, get_or, map, take, Option, Some, None, refl, sym, ap, subst, ◌∙◌, arith}
use Rattle.std.proofs.lemmas.List.{map-append, take_more}
use Rattle.dk_pqmodel.specs.Datum.{Datum, Cells, no_cells, one_cell, appended}
use Rattle.dk_pqmodel.specs.Footer.{RowGroup}
use Rattle.dk_pqmodel.specs.FileMeans.{HasRows, HaveRows, all_rows, rows_in}
use Rattle.dk_pqmodel.specs.Projection.{Plans, both_read, turned_all, in_group, widened_each, rows_widened}
use Rattle.dk_pqmodel.specs.declared.fault.PqFault.{PqFault}
use Rattle.dk_pqmeta.specs.View.{group_view}
use Rattle.dk_pqmeta.specs.declared.footer.RowGroup as code
use Rattle.dk_pqread.specs.Meanings.{RefusesMeaning}
use Rattle.dk_pqread.specs.RowsMeaning.{GroupMeans, GroupsMean, AddsRows}
use Rattle.dk_pqread.proofs.Finding.{refuses_by}
use Rattle.dk_pqread.proofs.Going.{appended_nothing}
use Rattle.dk_pqread.proofs.PartLaws.{none_is_not_some, some_is}

appended_behind : (a b c : Cells) → appended (appended a b) c ≡ appended a (appended b c)
appended_behind no_cells b c = refl
appended_behind (one_cell x a) b c = ap (one_cell x) (appended_behind a b c)

rows_last : (shares : List Cells) (own : Cells) → all_rows (shares ++ own ∷ []) ≡ appended (all_rows shares) own
rows_last [] own = appended_nothing own
rows_last (share ∷ shares) own = ap (appended share) (rows_last shares own) ∙ sym (appended_behind share (all_rows shares) own)

-- ---- rows that are turned, one list behind another

-- a cell and those behind it, where both are turned
record BothRead (o : Option Datum) (p : Option Cells) (x : Cells) : Type 0 where
  pub cell : Datum
  pub cells : Cells
  pub first : o ≡ Some cell
  pub others : p ≡ Some cells
  pub whole : one_cell cell cells ≡ x

both_is : (o : Option Datum) (p : Option Cells) (x : Cells) → both_read o p ≡ Some x → BothRead o p x
both_is None p x e = absurd (none_is_not_some x e)
both_is (Some w) None x e = absurd (none_is_not_some x e)
both_is (Some w) (Some ws) x e = record { cell = w; cells = ws; first = refl; others = refl; whole = some_is (one_cell w ws) x e }

-- both lists are turned, and what they are turned into stands one behind the other
record BothTurned (turn : Datum → Option Datum) (a b rows : Cells) : Type 0 where
  pub first : Cells
  pub second : Cells
  pub begins : turned_all turn a ≡ Some first
  pub goes : turned_all turn b ≡ Some second
  pub whole : rows ≡ appended first second

module _ (turn : Datum → Option Datum) where
  one_turned : (c : Datum) (cs : Cells) (w : Datum) (ws : Cells) → turn c ≡ Some w → turned_all turn cs ≡ Some ws → turned_all turn (one_cell c cs) ≡ Some (one_cell w ws)
  one_turned c cs w ws e f = rw (e, f) refl

  turned_behind : (a b x y : Cells) → turned_all turn a ≡ Some x → turned_all turn b ≡ Some y → turned_all turn (appended a b) ≡ Some (appended x y)
  turned_behind no_cells b x y e f = f ∙ ap (λ z. Some (appended z y)) (some_is no_cells x e)
  turned_behind (one_cell c a) b x y e f =
      let s = both_is (turn c) (turned_all turn a) x e in
      one_turned c (appended a b) s.cell (appended s.cells y) s.first (turned_behind a b s.cells y s.others f) ∙ ap (λ z. Some (appended z y)) s.whole

  turned_apart : (a b rows : Cells) → turned_all turn (appended a b) ≡ Some rows → BothTurned turn a b rows
  turned_apart no_cells b rows e = record { first = no_cells; second = rows; begins = refl; goes = e; whole = refl }
  turned_apart (one_cell c a) b rows e =
      let s = both_is (turn c) (turned_all turn (appended a b)) rows e in
      let rest = turned_apart a b s.cells s.others in
      record {
        first = one_cell s.cell rest.first;
        second = rest.second;
        begins = one_turned c a s.cell rest.first s.first rest.begins;
        goes = rest.goes;
        whole = sym s.whole ∙ ap (one_cell s.cell) rest.whole;
      }

  -- as many as before
  turned_count : (a x : Cells) → turned_all turn a ≡ Some x → rows_in x ≡ rows_in a
  turned_count no_cells x e = ap rows_in (sym (some_is no_cells x e))
  turned_count (one_cell c a) x e =
      let s = both_is (turn c) (turned_all turn a) x e in
      ap rows_in (sym s.whole) ∙ ap (λ n. 1 + n) (turned_count a s.cells s.others)

-- ---- groups

module _ (before : List ℕ) (plans : Plans) where
  abbrev Turn : Datum → Option Datum
  Turn = in_group (widened_each plans)

  shares_last : (groups : List RowGroup) (shares : List Cells) (group : RowGroup) (own : Cells) → HaveRows before plans groups shares → HasRows before plans group own
      → HaveRows before plans (groups ++ group ∷ []) (shares ++ own ∷ [])
  shares_last [] [] group own held share = (share, tt)
  shares_last [] (x ∷ shares) group own held share = absurd held
  shares_last (g ∷ groups) [] group own held share = absurd held
  shares_last (g ∷ groups) (x ∷ shares) group own held share = (held.0, shares_last groups shares group own held.1 share)

  pub no_groups : GroupsMean before plans [] no_cells
  no_groups = record { shares = []; held = tt; widened = refl }

  pub group_added : (groups : List RowGroup) (group : RowGroup) (done now : Cells) → GroupsMean before plans groups done → AddsRows done (GroupMeans before plans group) now → GroupsMean before plans (groups ++ group ∷ []) now
  group_added groups group done now all (more, after, one) = record {
    shares = all.shares ++ one.own ∷ [];
    held = shares_last groups all.shares group one.own all.held one.share;
    widened =
        ap (rows_widened plans) (rows_last all.shares one.own) ∙ turned_behind Turn (all_rows all.shares) one.own done more all.widened one.widened ∙ ap Some (sym after);
  }

  -- a group of several that mean rows means some
  group_in : (groups : List code.RowGroup) (i : ℕ) (group : code.RowGroup) (shares : List Cells) (rows : Cells) → i < length groups → group ≡ get_or groups i group
      → HaveRows before plans (map group_view groups) shares → rows_widened plans (all_rows shares) ≡ Some rows → (more : Cells) × GroupMeans before plans (group_view group) more
  group_in [] i group shares rows h is held widened = absurd (omega arith)
  group_in (g ∷ groups) i group [] rows h is held widened = absurd held
  group_in (g ∷ groups) zero group (share ∷ shares) rows h is held widened =
      let apart = turned_apart Turn share (all_rows shares) rows widened in (
        apart.first,
        record { own = share; share = subst (λ (x : code.RowGroup). HasRows before plans (group_view x) share) (sym is) held.0; widened = apart.begins },
      )
  group_in (g ∷ groups) (suc i) group (share ∷ shares) rows h is held widened =
      let apart = turned_apart Turn share (all_rows shares) rows widened in
      group_in groups i group shares apart.second (omega arith) is held.1 apart.goes

  pub group_refused : (groups : List code.RowGroup) (i : ℕ) (group : code.RowGroup) (done : Cells) (fault : PqFault) → i < length groups → group ≡ get_or groups i group
      → RefusesMeaning fault (AddsRows done (GroupMeans before plans (group_view group))) → RefusesMeaning fault (GroupsMean before plans (map group_view groups))
  group_refused groups i group done fault h is bad =
      refuses_by fault (AddsRows done (GroupMeans before plans (group_view group))) (GroupsMean before plans (map group_view groups))
      (λ rows all. (
      let one = group_in groups i group all.shares rows h is all.held all.widened in
      (appended done one.0, (one.0, refl, one.1))))
      bad

  pub groups_more : (groups : List code.RowGroup) (i : ℕ) (group : code.RowGroup) (done now : Cells) → i < length groups → group ≡ get_or groups i group
      → GroupsMean before plans (map group_view (take i groups)) done → AddsRows done (GroupMeans before plans (group_view group)) now → GroupsMean before plans (map group_view (take (i + 1) groups)) now
  groups_more groups i group done now h is all added =
      let names : map group_view (take (i + 1) groups) ≡ map group_view (take i groups) ++ group_view group ∷ [] =
      ap (map group_view) (take_more groups i group h ∙ ap (λ x. take i groups ++ x ∷ []) (sym is)) ∙ map-append group_view (take i groups) (group ∷ []) in
      subst (λ gs. GroupsMean before plans gs now) (sym names) (group_added (map group_view (take i groups)) (group_view group) done now all added)

  pub groups_count : (groups : List RowGroup) (rows : Cells) (all : GroupsMean before plans groups rows) → rows_in rows ≡ rows_in (all_rows all.shares)
  groups_count groups rows all = turned_count Turn (all_rows all.shares) rows all.widened
