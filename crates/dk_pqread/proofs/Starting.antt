-- Rows that begin are counted rightly, page by page, and a file that means rows has as many as its groups say.
use Rattle.std.proofs.Common.{◌≡◌, ℕ, zero, suc, ◌+◌, ◌-◌, ◌<◌, ◌≤◌, ◌==◌, inl, inr, true, false, cond, Some, None, Result, Ok, Err, get_or, List, [], ◌∷◌, length, map, refl, sym, ap, subst, ◌∙◌, arith}
use Rattle.std.specs.List.{count_by}
use Rattle.std.proofs.lemmas.Bool.{ne_eqb}
use Rattle.std.proofs.lemmas.List.{length-map}
use Rattle.std.proofs.lemmas.List.Sums.{sum_by-append}
use Rattle.dk_pages.specs.Split.{Parts, split_of}
use Rattle.dk_pages.proofs.PageSpellings.{page_only}
use Rattle.dk_pqmodel.specs.Datum.{Triple, Cells, Column}
use Rattle.dk_pqmodel.specs.FileMeans.{HasTriples, HasColumns, HasRows, HaveRows, columns_of}
use Rattle.dk_pqmodel.specs.FilePages.{ColumnAt, HoldLevels}
use Rattle.dk_pqmodel.specs.Footer.{Chunk, RowGroup}
use Rattle.dk_pqmodel.specs.Pages.{Page, page_at}
use Rattle.dk_pqmodel.specs.Projection.{Plans, projected_fields}
use Rattle.dk_pqmodel.specs.Scans.{chunk_at, first_place}
use Rattle.dk_pqmodel.specs.declared.fault.PqFault.{PqFault}
use Rattle.dk_pqread.specs.ChunkMeaning.{DataFrom, is_dictionary}
use Rattle.dk_pqmeta.specs.View.{group_view}
use Rattle.dk_pqmeta.specs.declared.footer.RowGroup as group_code
use Rattle.dk_pqread.specs.ColumnView.{column_at}
use Rattle.dk_pqread.specs.RowsMeaning.{GroupsMean}
use Rattle.dk_pqread.specs.declared.column.Column as code
use Rattle.dk_pqread.specs.Meanings.{AreLevelsOf, RefusesMeaning, Tells}
use Rattle.dk_pqread.specs.PageMeaning.{PageHolds}
use Rattle.dk_pqread.specs.Starts.{zero_at, starts, Each, OnPage, OnPages, BeginsRows, BeginRows, AllBeginRows}
use Rattle.dk_pqread.proofs.ChunkPages.{ReadAs, data_first, chunk_means, same_first, behind_dictionary}
use Rattle.dk_pqread.proofs.DistinctPaths.{HasDistinctPaths}
use Rattle.dk_pqread.proofs.Finding.{refuses_by}
use Rattle.dk_pqread.proofs.Groups.{chunk_only}
use Rattle.dk_pqread.proofs.PartLaws.{none_is_not_some, some_is}
use Rattle.dk_pqread.proofs.RowStarts.{starts_behind, triples_start}

-- ---- zeros among levels

one_zero : (n : ℕ) → cond (n == 0) 1 0 ≡ zero_at n
one_zero zero = refl
one_zero (suc n) = rw (ne_eqb (suc n) 0 (λ same. omega (arith, same))) refl

pub zeros_start : (es : Column) → count_by (λ level. level == 0) (map (λ (e : Triple). e.repetition) es) ≡ starts es
zeros_start [] = refl
zeros_start (e ∷ es) =
    let apart = sum_by-append (λ level. cond (level == 0) 1 0) (e.repetition ∷ []) (map (λ (e : Triple). e.repetition) es) in
    let first : count_by (λ level. level == 0) (e.repetition ∷ []) ≡ 0 + cond (e.repetition == 0) 1 0 = refl in
    omega (arith, apart, first, one_zero e.repetition, zeros_start es)

-- ---- what is told of a part is told of the whole

pub tells_by : {A B : Type 0} (number : A → ℕ) (total : B → ℕ) (result : Result ℕ PqFault) (M : A → Type 0) (N : B → Type 0) → ((y : B) → N y → (x : A) × M x × (total y ≡ number x)) → Tells number result M
    → Tells total result N
tells_by number total (Ok n) M N part h = λ y m. (part y m).2 ∙ h (part y m).0 (part y m).1
tells_by number total (Err fault) M N part h = refuses_by fault M N (λ y m. ((part y m).0, (part y m).1)) h

no_starts : (es : Column) → length es ≡ 0 → starts es ≡ 0
no_starts [] h = refl
no_starts (e ∷ es) h = absurd (omega (arith, h))

-- ---- a page

-- the repetition levels of a page's triples stand in its first part
pub page_levels : (column : ColumnAt) (page : Page) (parts : Parts) (count : ℕ) → count ≡ page.values → split_of column.rep column.def page ≡ Some parts → (result : Result ℕ PqFault)
    → Tells (count_by (λ level. level == 0)) result (AreLevelsOf column.rep count parts.rep) → Tells starts result (OnPage column page)
page_levels column page parts count is split result h =
    tells_by (count_by (λ level. level == 0)) starts result (AreLevelsOf column.rep count parts.rep) (OnPage column page)
    (λ triples on. (
    let holds = on.1 in
    let same : holds.parts ≡ parts = some_is holds.parts parts (sym holds.split ∙ split) in
    let levels = map (λ (e : Triple). e.repetition) triples in
    (levels, (length-map triples (λ (e : Triple). e.repetition) ∙ holds.count ∙ sym is, subst (λ (p : Parts). HoldLevels column.rep levels p.rep) same holds.held.repetitions), sym (zeros_start triples))))
    h

pub no_split : (column : ColumnAt) (page : Page) → split_of column.rep column.def page ≡ None → (triples : Column) → OnPage column page triples → ⊥
no_split column page none triples on = none_is_not_some on.1.parts (sym none ∙ on.1.split)

-- ---- pages one behind another

module _ (before : List ℕ) (column : ColumnAt) where
  pub record StartsOn (start count place wanted begun : ℕ) : Type 0 where
    pub within : begun + wanted ≤ count
    pub only : (all : Column) → OnPages before column start count all → (rest : Column) × OnPages before column place wanted rest × (starts all ≡ begun + starts rest)

  pub starts_first : (start count : ℕ) → StartsOn start count start count 0
  starts_first start count = record { within = omega arith; only = λ all d. (all, d, omega arith) }

  module _ (start count place wanted begun : ℕ) (on : StartsOn start count place wanted begun) where
    pub starts_end : wanted ≡ 0 → (all : Column) → OnPages before column start count all → starts all ≡ begun
    starts_end none all d =
        let r = on.only all d in
        let rest = no_starts r.0 (r.1.1.count ∙ none) in
        omega (arith, r.2, rest)

    module _ (some : 0 < wanted) where
      pub no_next : page_at before place ≡ None → (all : Column) → OnPages before column start count all → ⊥
      no_next none all d =
          let r = on.only all d in
          let f = data_first before column r.1.0 place wanted r.0 some r.1.1 in
          none_is_not_some f.page (sym none ∙ page_only before place f.page f.at)

      module _ (page : Page) (found : page_at before place ≡ Some page) where
        first_new : (all : Column) → OnPages before column start count all → (new rest : Column) × OnPage column page new × OnPages before column page.next (wanted - length new) rest
            × (starts all ≡ begun + (starts new + starts rest)) × (length new ≤ wanted)
        first_new all d =
            let r = on.only all d in
            let f = data_first before column r.1.0 place wanted r.0 some r.1.1 in
            let same : f.page ≡ page = some_is f.page page (sym (page_only before place f.page f.at) ∙ found) in (
              f.new,
              f.rest,
              (r.1.0, subst (λ (p : Page). PageHolds column r.1.0 p f.new) same f.holds),
              (r.1.0, subst (λ (p : Page). DataFrom before column r.1.0 p.next (wanted - length f.new) f.rest) same f.behind),
              r.2 ∙ ap (λ n. begun + n) (ap starts f.all_is ∙ starts_behind f.new f.rest),
              f.room,
            )

        pub more_than : wanted < page.values → (all : Column) → OnPages before column start count all → ⊥
        more_than many all d = (let f = first_new all d in omega (arith, many, f.2.1.count, f.5))

        pub next_refused : (fault : PqFault) → RefusesMeaning fault (OnPage column page) → RefusesMeaning fault (OnPages before column start count)
        next_refused fault h = refuses_by fault (OnPage column page) (OnPages before column start count) (λ all d. (let f = first_new all d in (f.0, f.2))) h

        pub starts_next : (number values left : ℕ) → values ≡ page.values → values ≤ wanted → left ≡ wanted - values → number ≤ page.values → Tells starts (Ok number) (OnPage column page)
            → StartsOn start count page.next left (begun + number)
        starts_next number values left is room rest few told = record {
          within = omega (arith, on.within, is, room, rest, few);
          only = λ all d. (
              let f = first_new all d in
              let begun_new = told f.0 f.2 in
              let left_is : wanted - length f.0 ≡ left = omega (arith, f.2.1.count, is, rest) in
              (f.1, subst (λ n. OnPages before column page.next n f.1) left_is f.3, omega (arith, f.4, begun_new)));
        }

-- ---- a chunk

module _ (before : List ℕ) (column : ColumnAt) (chunk : Chunk) where
  pub none_begins : chunk.values ≡ 0 → (triples : Column) → HasTriples before column chunk triples → starts triples ≡ 0
  none_begins none triples has = no_starts triples (has.count ∙ none)

  module _ (some : 0 < chunk.values) (page : Page) (found : page_at before (first_place chunk) ≡ Some page) where
    pub behind_entries : is_dictionary page.kind ≡ true → (result : Result ℕ PqFault) → Tells starts result (OnPages before column page.next chunk.values) → Tells starts result (HasTriples before column chunk)
    behind_entries is result h =
        tells_by starts starts result (OnPages before column page.next chunk.values) (HasTriples before column chunk)
        (λ triples has. (let b = behind_dictionary before column chunk some page found is triples has in (triples, (Some b.0, b.2), refl))) h

    pub without_entries : is_dictionary page.kind ≡ false → (result : Result ℕ PqFault) → Tells starts result (OnPages before column (first_place chunk) chunk.values)
        → Tells starts result (HasTriples before column chunk)
    without_entries is result h =
        tells_by starts starts result (OnPages before column (first_place chunk) chunk.values) (HasTriples before column chunk)
        (λ triples has. (triples, by_kind triples (chunk_means before column chunk some triples has), refl)) h
      where
        by_kind : (triples : Column) → ReadAs before column chunk triples → OnPages before column (first_place chunk) chunk.values triples
        by_kind triples (inl d) = (None, d)
        by_kind triples (inr (first, entries, at, holds, d)) = (
            let same = same_first before column chunk some page found first at in
            let never : false ≡ true = sym is ∙ ap (λ (p : Page). is_dictionary p.kind) (sym same) ∙ ap is_dictionary holds.is in cc)

-- ---- groups

module _ (before : List ℕ) (group : RowGroup) (distinct : HasDistinctPaths group) (column : ColumnAt) where
  pub lacks_chunk : chunk_at column.path group.columns ≡ None → (triples : Column) → BeginsRows before group column triples → ⊥
  lacks_chunk none triples b = none_is_not_some b.0.0 (sym none ∙ chunk_only group.columns column.path b.0.0 distinct b.0.1)

  module _ (chunk : Chunk) (found : chunk_at column.path group.columns ≡ Some chunk) where
    chunk_is : (triples : Column) → BeginsRows before group column triples → HasTriples before column chunk triples
    chunk_is triples b =
        let same : b.0.0 ≡ chunk = some_is b.0.0 chunk (sym (chunk_only group.columns column.path b.0.0 distinct b.0.1) ∙ found) in
        subst (λ (k : Chunk). HasTriples before column k triples) same b.0.2

    pub begins_refused : (fault : PqFault) → RefusesMeaning fault (HasTriples before column chunk) → RefusesMeaning fault (BeginsRows before group column)
    begins_refused fault h = refuses_by fault (HasTriples before column chunk) (BeginsRows before group column) (λ triples b. (triples, chunk_is triples b)) h

    pub other_number : (number : ℕ) → Tells starts (Ok number) (HasTriples before column chunk) → (number ≡ group.rows → ⊥) → (triples : Column) → BeginsRows before group column triples → ⊥
    other_number number told differs triples b = differs (sym (told triples (chunk_is triples b)) ∙ b.1)

module _ (before : List ℕ) where
  -- the column at a place, where all have
  begins_in : (group : RowGroup) (cs : List code.Column) (i : ℕ) (c : code.Column) (ts : List Column) → i < length cs → c ≡ get_or cs i c → HasColumns before group (map column_at cs) ts → Each group.rows ts
      → (t : Column) × BeginsRows before group (column_at c) t
  begins_in group [] i c ts h is all each = absurd (omega arith)
  begins_in group (x ∷ cs) i c [] h is all each = absurd all
  begins_in group (x ∷ cs) zero c (t ∷ ts) h is all each = (t, subst (λ (y : code.Column). BeginsRows before group (column_at y) t) (sym is) (all.0, each.0))
  begins_in group (x ∷ cs) (suc i) c (t ∷ ts) h is all each = begins_in group cs i c ts (omega arith) is all.1 each.1

  pub column_refused : (group : RowGroup) (cs : List code.Column) (i : ℕ) (c : code.Column) (fault : PqFault) → i < length cs → c ≡ get_or cs i c → RefusesMeaning fault (BeginsRows before group (column_at c))
      → RefusesMeaning fault (BeginRows before group (map column_at cs))
  column_refused group cs i c fault h is bad =
      refuses_by fault (BeginsRows before group (column_at c)) (BeginRows before group (map column_at cs)) (λ ts all. begins_in group cs i c ts h is all.0 all.1) bad

  group_in : (cs : List ColumnAt) (gs : List group_code.RowGroup) (i : ℕ) (g : group_code.RowGroup) (ts : List (List Column)) → i < length gs → g ≡ get_or gs i g → AllBeginRows before cs (map group_view gs) ts
      → (t : List Column) × BeginRows before (group_view g) cs t
  group_in cs [] i g ts h is all = absurd (omega arith)
  group_in cs (x ∷ gs) i g [] h is all = absurd all
  group_in cs (x ∷ gs) zero g (t ∷ ts) h is all = (t, subst (λ (y : group_code.RowGroup). BeginRows before (group_view y) cs t) (sym is) all.0)
  group_in cs (x ∷ gs) (suc i) g (t ∷ ts) h is all = group_in cs gs i g ts (omega arith) is all.1

  pub begin_refused : (cs : List ColumnAt) (gs : List group_code.RowGroup) (i : ℕ) (g : group_code.RowGroup) (fault : PqFault) → i < length gs → g ≡ get_or gs i g → RefusesMeaning fault (BeginRows before (group_view g) cs)
      → RefusesMeaning fault (AllBeginRows before cs (map group_view gs))
  begin_refused cs gs i g fault h is bad = refuses_by fault (BeginRows before (group_view g) cs) (AllBeginRows before cs (map group_view gs)) (λ ts all. group_in cs gs i g ts h is all) bad

  -- groups that have rows have as many as they say
  module _ (plans : Plans) where
    columns_in : (groups : List RowGroup) (shares : List Cells) → HaveRows before plans groups shares → (ts : List (List Column)) × AllBeginRows before (columns_of plans 0 0) groups ts
    columns_in [] [] h = ([], tt)
    columns_in [] (x ∷ shares) h = absurd h
    columns_in (g ∷ groups) [] h = absurd h
    columns_in (g ∷ groups) (x ∷ shares) h =
        let has : HasRows before plans g x = h.0 in
        let each : Each g.rows has.columns = subst (λ n. Each n has.columns) has.count (triples_start (projected_fields plans) x has.columns has.triples) in
        let rest = columns_in groups shares h.1 in
        (has.columns ∷ rest.0, ((has.held, each), rest.1))

    pub groups_begin : (fault : PqFault) (groups : List RowGroup) → RefusesMeaning fault (AllBeginRows before (columns_of plans 0 0) groups) → RefusesMeaning fault (GroupsMean before plans groups)
    groups_begin fault groups h =
        refuses_by fault (AllBeginRows before (columns_of plans 0 0) groups) (GroupsMean before plans groups) (λ rows all. columns_in groups all.shares all.held) h

-- the same under other names
pub begin_as : {b c : List ℕ} {cs ds : List ColumnAt} {gs hs : List RowGroup} (fault : PqFault) → b ≡ c → cs ≡ ds → gs ≡ hs → RefusesMeaning fault (AllBeginRows b cs gs) → RefusesMeaning fault (AllBeginRows c ds hs)
begin_as {b} {c} {cs} {ds} {gs} {hs} fault e f g h =
    subst (λ x. RefusesMeaning fault (AllBeginRows c ds x)) g (subst (λ x. RefusesMeaning fault (AllBeginRows c x gs)) f (subst (λ x. RefusesMeaning fault (AllBeginRows x cs gs)) e h))
