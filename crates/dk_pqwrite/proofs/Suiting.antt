-- Triples that suit their columns.
use Rattle.std.proofs.Common.{◌≤◌, ◌<◌, ◌^◌, ℕ, ◌+◌, ◌*◌, IsTrue, Option, Some, None, List, [], ◌∷◌, ◌++◌, length, get_or, replicate, refl, arith}
use Rattle.std.specs.Prelude.{IfSome}
use Rattle.std.specs.List.{All}
use Rattle.std.proofs.lemmas.Bool.{false≢true}
use Rattle.std.proofs.lemmas.List.Elements.{All-nil, All-cons, All-append, All-weaker}
use Rattle.std.proofs.lemmas.List.Sums.{sum_by-cons, sum_by-append, get_or-le-sum_by}
use Rattle.dk_pqmodel.specs.Shape.{Leaf}
use Rattle.dk_pqmodel.specs.Datum.{Value, Triple, Column, single_triple}
use Rattle.dk_pqmodel.specs.FilePages.{ColumnAt, IsFull}
use Rattle.dk_pqmodel.specs.Fits.{fits_leaf}
use Rattle.dk_pqmodel.specs.Triples.{columns_joined, empty_columns}
use Rattle.dk_pqmodel.specs.Weight.{text_length}
use Rattle.dk_pqwrite.specs.PlainValues.{column_weight, entry_weight}
use Rattle.dk_pqwrite.specs.Writable.{IsWritableColumn}
use Rattle.dk_pqwrite.proofs.BareColumns.{Beyond, bare_column, without_path}
use Rattle.dk_pqwrite.proofs.Names.{Each}

-- its levels are the column's, and its value, if it has one, fits
abbrev IsEntryOf : ColumnAt → Triple → Type 0
IsEntryOf column e = IsFull column.def e × (e.repetition ≤ column.rep) × IfSome e.value (λ v. IsTrue (fits_leaf v column.kind))

-- each is an entry of the column, and together they weigh no more than this
pub record Suits (most : ℕ) (column : ColumnAt) (triples : Column) : Type 0 where
  pub each : All (IsEntryOf column) triples
  pub light : column_weight triples ≤ most

suits_empty : (column : ColumnAt) → Suits 0 column []
suits_empty column = record { each = All-nil (IsEntryOf column); light = omega arith }

suits_one : (column : ColumnAt) (r d : ℕ) (v : Option Value) → IsEntryOf column (record { repetition = r; definition = d; value = v }) → Suits (entry_weight v) column (single_triple r d v)
suits_one column r d v is =
    record { each = All-cons (IsEntryOf column) (record { repetition = r; definition = d; value = v }) [] is (All-nil (IsEntryOf column)); light = omega arith }

-- below the greatest definition level nothing stands
suits_nothing : (column : ColumnAt) (r d : ℕ) → Beyond r (d + 1) column → Suits 16 column (single_triple r d None)
suits_nothing column r d h = suits_one column r d None ((omega (arith, h.1), (λ some. absurd (false≢true some), λ e. absurd (omega (arith, e, h.1)))), h.0, tt)

pub suits_value : (kind : Leaf) (v : Value) (r d k : ℕ) → r ≤ k → IsTrue (fits_leaf v kind) → Suits (16 + text_length v) (bare_column kind k d) (single_triple r d (Some v))
suits_value kind v r d k le fits = suits_one (bare_column kind k d) r d (Some v) ((omega arith, (λ some. refl, λ e. refl)), le, fits)

suits_behind : (m n : ℕ) (column : ColumnAt) (a b : Column) → Suits m column a → Suits n column b → Suits (m + n) column (a ++ b)
suits_behind m n column a b h k = record {
  each = All-append (IsEntryOf column) a b h.each k.each;
  light = omega (arith, sum_by-append (λ (e : Triple). entry_weight e.value) a b, h.light, k.light);
}

suits_more : (m n : ℕ) (column : ColumnAt) (triples : Column) → m ≤ n → Suits m column triples → Suits n column triples
suits_more m n column triples le h = record { each = h.each; light = omega (arith, le, h.light) }

-- ---- column by column

-- each column has triples that suit it
abbrev pub AllSuit : ℕ → List ColumnAt → List Column → Type 0
AllSuit most [] [] = Unit {0}
AllSuit most (c ∷ cs) (t ∷ ts) = Suits most c t × AllSuit most cs ts
AllSuit most cs ts = ⊥

pub all_more : (m n : ℕ) (cs : List ColumnAt) (ts : List Column) → m ≤ n → AllSuit m cs ts → AllSuit n cs ts
all_more m n [] [] le h = tt
all_more m n [] (t ∷ ts) le h = absurd h
all_more m n (c ∷ cs) [] le h = absurd h
all_more m n (c ∷ cs) (t ∷ ts) le h = (suits_more m n c t le h.0, all_more m n cs ts le h.1)

pub all_empty : (cs : List ColumnAt) → AllSuit 0 cs (empty_columns (length cs))
all_empty [] = tt
all_empty (c ∷ cs) = (suits_empty c, all_empty cs)

pub all_nothing : (r d : ℕ) (cs : List ColumnAt) → Each (Beyond r (d + 1)) cs → AllSuit 16 cs (replicate (length cs) (single_triple r d None))
all_nothing r d [] h = tt
all_nothing r d (c ∷ cs) h = (suits_nothing c r d h.0, all_nothing r d cs h.1)

pub all_beside : (m n : ℕ) (cs ds : List ColumnAt) (xs ys : List Column) → AllSuit m cs xs → AllSuit n ds ys → AllSuit (m + n) (cs ++ ds) (xs ++ ys)
all_beside m n [] ds [] ys h k = all_more n (m + n) ds ys (omega arith) k
all_beside m n [] ds (x ∷ xs) ys h k = absurd h
all_beside m n (c ∷ cs) ds [] ys h k = absurd h
all_beside m n (c ∷ cs) ds (x ∷ xs) ys h k = (suits_more m (m + n) c x (omega arith) h.0, all_beside m n cs ds xs ys h.1 k)

all_joined : (m n : ℕ) (cs : List ColumnAt) (xs ys : List Column) → AllSuit m cs xs → AllSuit n cs ys → AllSuit (m + n) cs (columns_joined xs ys)
all_joined m n [] [] [] h k = tt
all_joined m n [] [] (y ∷ ys) h k = absurd k
all_joined m n [] (x ∷ xs) ys h k = absurd h
all_joined m n (c ∷ cs) [] ys h k = absurd h
all_joined m n (c ∷ cs) (x ∷ xs) [] h k = absurd k
all_joined m n (c ∷ cs) (x ∷ xs) (y ∷ ys) h k = (suits_behind m n c x y h.0 k.0, all_joined m n cs xs ys h.1 k.1)

-- the same, or no columns, where there are no cells
abbrev pub NoneOrSuit : ℕ → List ColumnAt → List Column → Type 0
NoneOrSuit most cs [] = Unit {0}
NoneOrSuit most cs (t ∷ ts) = AllSuit most cs (t ∷ ts)

pub none_or_suit : (most : ℕ) (cs : List ColumnAt) (ts : List Column) → AllSuit most cs ts → NoneOrSuit most cs ts
none_or_suit most cs [] h = tt
none_or_suit most cs (t ∷ ts) h = h

pub joined_suit : (m n : ℕ) (cs : List ColumnAt) (xs ys : List Column) → AllSuit m cs xs → NoneOrSuit n cs ys → AllSuit (m + n) cs (columns_joined xs ys)
joined_suit m n cs [] [] h k = all_more m (m + n) cs [] (omega arith) h
joined_suit m n cs (x ∷ xs) [] h k = all_more m (m + n) cs (x ∷ xs) (omega arith) h
joined_suit m n cs xs (y ∷ ys) h k = all_joined m n cs xs (y ∷ ys) h k

-- ---- triples that suit a column are written there

fits_entry : (kind : Leaf) (v : Option Value) → IfSome v (λ x. IsTrue (fits_leaf x kind)) → entry_weight v ≤ 2 ^ 30 → IfSome v (λ x. IsTrue (fits_leaf x kind) × (text_length x < 2 ^ 32))
fits_entry kind None h light = tt
fits_entry kind (Some v) h light = (h, omega (arith, light))

some_weight : (v : Option Value) → 16 ≤ entry_weight v
some_weight None = omega arith
some_weight (Some v) = omega arith

few_entries : (triples : Column) → 16 * length triples ≤ column_weight triples
few_entries [] = omega arith
few_entries (e ∷ es) = omega (arith, few_entries es, some_weight e.value, sum_by-cons (λ (x : Triple). entry_weight x.value) e es)

pub suits_writable : (most : ℕ) (column : ColumnAt) (triples : Column) → most ≤ 2 ^ 30 → Suits most (without_path column) triples → IsWritableColumn column triples
suits_writable most column triples le h = record {
  full = (
    All-weaker (IsEntryOf (without_path column)) (IsFull column.def) (λ e is. is.0) triples h.each,
    All-weaker (IsEntryOf (without_path column)) (λ (e : Triple). e.repetition ≤ column.rep) (λ e is. is.1) triples h.each,
  );
  fit = λ i e within. fits_entry column.kind (get_or triples i e).value (h.each i e within).2 (omega (arith, get_or-le-sum_by (λ (x : Triple). entry_weight x.value) triples i e within, h.light, le));
  few = omega (arith, few_entries triples, h.light, le);
  light = omega (arith, h.light, le);
}
