-- What the pages of a chunk hold, from a place on.
use Rattle.std.specs.Prelude.{◌≡◌, ◌⊎◌, ◌||◌, ℕ, Bool, true, false, ℤ, pos, Option, List, length, ◌++◌, flat_map}
use Rattle.std.specs.Ordering.{int_eq}
use Rattle.dk_grammar.specs.Plain.{Plain, plain_values}
use Rattle.dk_pqmodel.specs.Shape.{Leaf}
use Rattle.dk_pqmodel.specs.Datum.{Value, Column}
use Rattle.dk_pqmodel.specs.FilePages.{ColumnAt, ArePlainOf, AreData}
use Rattle.dk_pqmodel.specs.Pages.{Page}
use Rattle.dk_pqmodel.specs.declared.page.PageKind.{PageKind}
use Rattle.dk_pqmodel.specs.declared.page.PageKind.TheVariants.{DataV1, DataV2, Dictionary}

abbrev pub is_dictionary : PageKind → Bool
is_dictionary DataV1 = false
is_dictionary DataV2 = false
is_dictionary Dictionary = true

-- a dictionary's entries are PLAIN, under either code
abbrev pub is_entry_code : ℤ → Bool
is_entry_code code = int_eq code (pos 0) || int_eq code (pos 2)

-- the bytes are so many values in the encoding PLAIN, with nothing behind them
pub record AreWhole (kind : Leaf) (total : ℕ) (bytes : List ℕ) (values : List Value) : Type 0 where
  pub count : length values ≡ total
  pub plains : List Plain
  pub whole : bytes ≡ plain_values plains
  pub same : ArePlainOf kind plains values

-- A dictionary page: exactly as many entries as it says, in the encoding PLAIN.
pub record EntriesHold (kind : Leaf) (page : Page) (entries : List Value) : Type 0 where
  pub is : page.kind ≡ Dictionary
  pub coded : (page.encoding ≡ pos 0) ⊎ (page.encoding ≡ pos 2)
  pub held : AreWhole kind page.values page.body entries

-- Data pages stand one behind another from the place on, and these are so many triples of theirs.
pub record DataFrom (before : List ℕ) (column : ColumnAt) (dictionary : Option (List Value)) (place values : ℕ) (triples : Column) : Type 0 where
  pub front : List ℕ
  pub pages : List (List ℕ × Column)
  pub behind : List ℕ
  pub whole : before ≡ front ++ (flat_map (λ x. x.0) pages ++ behind)
  pub begins : length front ≡ place
  pub read : AreData column dictionary pages
  pub joined : triples ≡ flat_map (λ x. x.1) pages
  pub count : length triples ≡ values
