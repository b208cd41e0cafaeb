-- The columns of a schema by their kinds and levels alone.
use Rattle.std.proofs.Common.{◌≡◌, ◌≤◌, ℕ, ◌+◌, Bool, true, false, List, [], ◌∷◌, ◌++◌, length, map, codes, refl, sym, ap, ap₂, ◌∙◌, arith}
use Rattle.std.proofs.lemmas.List.{append-nil, map-append, length-append, length-map}
use Rattle.dk_pqmodel.specs.Shape.{Leaf, chars, Shape, leaf, map_of, Field, field, Fields, no_fields, one_field, entry, width_at, width_in, width_of}
use Rattle.dk_pqmodel.specs.Shape as shape
use Rattle.dk_pqmodel.specs.FileMeans.{one_if, columns_in, columns_of}
use Rattle.dk_pqmodel.specs.FilePages.{ColumnAt}
use Rattle.dk_pqmodel.specs.Projection.{Path}
use Rattle.dk_pqmodel.specs.Triples.{reached}
use Rattle.dk_pqwrite.specs.OverItself.{own_plan_at, own_plan_in, own_plan_named, own_plans}
use Rattle.dk_pqwrite.proofs.Names.{Each, each_append, each_map}

-- a column without a path
abbrev pub bare_column : Leaf → ℕ → ℕ → ColumnAt
bare_column kind k d = record { path = []; kind = kind; rep = k; def = d }

-- the columns where k lists are around and the definition level d is reached
abbrev mutual
  pub bare_columns_at : Shape → ℕ → ℕ → List ColumnAt
  bare_columns_at (leaf l) k d = bare_column l k d ∷ []
  bare_columns_at (shape.group fs) k d = bare_columns_of fs k d
  bare_columns_at (shape.list f) k d = bare_columns_in f (k + 1) (d + 1)
  bare_columns_at (map_of f) k d = bare_column chars (k + 1) (d + 1) ∷ bare_columns_in f (k + 1) (d + 1)

  pub bare_columns_in : Field → ℕ → ℕ → List ColumnAt
  bare_columns_in (field name nullable s) k d = bare_columns_at s k (reached (field name nullable s) d)

  pub bare_columns_of : Fields → ℕ → ℕ → List ColumnAt
  bare_columns_of no_fields k d = []
  bare_columns_of (one_field f fs) k d = bare_columns_in f k d ++ bare_columns_of fs k d

-- a map is a list of its entries
pub bare_entry : (f : Field) (k d : ℕ) → bare_columns_in (entry f) k d ≡ bare_column chars k d ∷ bare_columns_in f k d
bare_entry f k d = ap (λ columns. bare_column chars k d ∷ columns) (append-nil (bare_columns_in f k d))

-- ---- those of the schema laid over itself

abbrev pub without_path : ColumnAt → ColumnAt
without_path c = bare_column c.kind c.rep c.def

level_reached : (name : List ℕ) (b : Bool) (s : Shape) (d : ℕ) → d + one_if b ≡ reached (field name b s) d
level_reached name true s d = refl
level_reached name false s d = omega arith

mutual
  bare_plan_at : (s : Shape) (b : Bool) (path : Path) (k d : ℕ) → map without_path (columns_in (own_plan_at s b path) k d) ≡ bare_columns_at s k (d + one_if b)
  bare_plan_at (leaf l) b path k d = refl
  bare_plan_at (shape.group fs) b path k d = bare_plans fs path k (d + one_if b)
  bare_plan_at (shape.list f) b path k d = bare_plan_in f (path ++ codes "list" ∷ codes "element" ∷ []) (k + 1) (d + one_if b + 1)
  bare_plan_at (map_of f) b path k d =
      let key : d + one_if b + 1 + 0 ≡ d + one_if b + 1 = omega arith in
      ap₂ (λ level columns. bare_column chars (k + 1) level ∷ columns) key (bare_plan_in f (path ++ codes "key_value" ∷ codes "value" ∷ []) (k + 1) (d + one_if b + 1))

  bare_plan_in : (f : Field) (path : Path) (k d : ℕ) → map without_path (columns_in (own_plan_in f path) k d) ≡ bare_columns_in f k d
  bare_plan_in (field name b s) path k d = bare_plan_at s b path k d ∙ ap (bare_columns_at s k) (level_reached name b s d)

  bare_plan_named : (f : Field) (path : Path) (k d : ℕ) → map without_path (columns_in (own_plan_named f path) k d) ≡ bare_columns_in f k d
  bare_plan_named (field name b s) path k d = bare_plan_at s b (path ++ name ∷ []) k d ∙ ap (bare_columns_at s k) (level_reached name b s d)

  pub bare_plans : (fs : Fields) (path : Path) (k d : ℕ) → map without_path (columns_of (own_plans fs path) k d) ≡ bare_columns_of fs k d
  bare_plans no_fields path k d = refl
  bare_plans (one_field f fs) path k d =
      map-append without_path (columns_in (own_plan_named f path) k d) (columns_of (own_plans fs path) k d) ∙ ap₂ ◌++◌ (bare_plan_named f path k d) (bare_plans fs path k d)

-- ---- how many they are

mutual
  pub count_at : (s : Shape) (k d : ℕ) → length (bare_columns_at s k d) ≡ width_at s
  count_at (leaf l) k d = refl
  count_at (shape.group fs) k d = count_each fs k d
  count_at (shape.list f) k d = count_in f (k + 1) (d + 1)
  count_at (map_of f) k d = omega (arith, count_in f (k + 1) (d + 1))

  count_in : (f : Field) (k d : ℕ) → length (bare_columns_in f k d) ≡ width_in f
  count_in (field name b s) k d = count_at s k (reached (field name b s) d)

  pub count_each : (fs : Fields) (k d : ℕ) → length (bare_columns_of fs k d) ≡ width_of fs
  count_each no_fields k d = refl
  count_each (one_field f fs) k d = length-append (bare_columns_in f k d) (bare_columns_of fs k d) ∙ ap₂ ◌+◌ (count_in f k d) (count_each fs k d)

pub sizes_shredded : (fs : Fields) (path : Path) (r d : ℕ) → length (columns_of (own_plans fs path) r d) ≡ width_of fs
sizes_shredded fs path r d = sym (length-map (columns_of (own_plans fs path) r d) without_path) ∙ ap length (bare_plans fs path r d) ∙ count_each fs r d

-- ---- their levels are no less than those around

abbrev pub Beyond : ℕ → ℕ → ColumnAt → Type 0
Beyond k d c = (k ≤ c.rep) × (d ≤ c.def)

pub further : (k l d e : ℕ) → k ≤ l → d ≤ e → (c : ColumnAt) → Beyond l e c → Beyond k d c
further k l d e lists levels c h = (omega (arith, lists, h.0), omega (arith, levels, h.1))

pub no_less : (name : List ℕ) (b : Bool) (s : Shape) (d : ℕ) → d ≤ reached (field name b s) d
no_less name true s d = omega arith
no_less name false s d = omega arith

mutual
  pub beyond_at : (s : Shape) (k d : ℕ) → Each (Beyond k d) (bare_columns_at s k d)
  beyond_at (leaf l) k d = ((omega arith, omega arith), tt)
  beyond_at (shape.group fs) k d = beyond_each fs k d
  beyond_at (shape.list f) k d = beyond_in f k (k + 1) d (d + 1) (omega arith) (omega arith)
  beyond_at (map_of f) k d = ((omega arith, omega arith), beyond_in f k (k + 1) d (d + 1) (omega arith) (omega arith))

  beyond_in : (f : Field) (k l d e : ℕ) → k ≤ l → d ≤ e → Each (Beyond k d) (bare_columns_in f l e)
  beyond_in (field name b s) k l d e lists levels =
      let inner = reached (field name b s) e in
      each_map (further k l d inner lists (omega (arith, levels, no_less name b s e))) (bare_columns_at s l inner) (beyond_at s l inner)

  beyond_each : (fs : Fields) (k d : ℕ) → Each (Beyond k d) (bare_columns_of fs k d)
  beyond_each no_fields k d = tt
  beyond_each (one_field f fs) k d =
      each_append (Beyond k d) (bare_columns_in f k d) (bare_columns_of fs k d) (beyond_in f k k d d (omega arith) (omega arith)) (beyond_each fs k d)
