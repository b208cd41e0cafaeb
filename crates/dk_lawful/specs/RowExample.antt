-- Rows of checkpoints, with the groups in the order of the schema.
use Rattle.std.specs.Prelude.{◌≡◌, ℕ, pos, Bool, true, false, List, [], ◌∷◌, codes, Some, None}
use Rattle.dk_pqmodel.specs.Datum.{flag, int, chars, Datum, null, atom, group, list}
use Rattle.dk_pqmodel.specs.RowView.{cells_of_list}
use Rattle.dk_model.specs.declared.action.Action.{Action}
use Rattle.dk_model.specs.declared.action.Action.TheVariants as action
use Rattle.dk_lawful.specs.CheckpointRows.{row_means}
use Rattle.dk_lawful.specs.Example.{an_add}

abbrev pub text_cell : List ℕ → Datum
text_cell t = atom (chars t)

abbrev pub number : ℕ → Datum
number n = atom (int (pos n))

abbrev pub of : List Datum → Datum
of cells = group (cells_of_list cells)

abbrev pub nothing_said : Datum
nothing_said = of (null ∷ null ∷ null ∷ null ∷ null ∷ null ∷ null ∷ null ∷ [])

abbrev pub txn_row : Datum
txn_row = of (of (text_cell (codes "g") ∷ number 3 ∷ null ∷ []) ∷ null ∷ null ∷ null ∷ null ∷ null ∷ null ∷ null ∷ [])

-- a file of the path "a", and what is said of its deletion vector
abbrev pub add_row : Datum → Datum
add_row vector =
    of (null ∷ of (text_cell (codes "a") ∷ null ∷ number 1 ∷ number 5 ∷ null ∷ null ∷ null ∷ null ∷ null ∷ null ∷ vector ∷ []) ∷ null ∷ null ∷ null ∷ null ∷ null ∷ null ∷ [])

abbrev pub remove_row : Datum → Datum
remove_row path = of (null ∷ null ∷ of (path ∷ number 7 ∷ atom (flag false) ∷ []) ∷ null ∷ null ∷ null ∷ null ∷ null ∷ [])

-- a map has its entries as groups
abbrev pub metadata_row : Datum
metadata_row =
    of (null ∷ null ∷ null
    ∷ of (text_cell (codes "t") ∷ null ∷ null ∷ null ∷ text_cell (codes "s") ∷ list (cells_of_list (text_cell (codes "p") ∷ [])) ∷ list (cells_of_list (of (text_cell (codes "k") ∷ null ∷ []) ∷ [])) ∷ null ∷ [])
    ∷ null ∷ null ∷ null ∷ null ∷ [])

abbrev pub protocol_row : Datum
protocol_row =
    of (null ∷ null ∷ null ∷ null ∷ of (number 3 ∷ number 7 ∷ list (cells_of_list []) ∷ list (cells_of_list (text_cell (codes "f") ∷ [])) ∷ []) ∷ null ∷ null ∷ null ∷ [])

abbrev pub domain_row : Datum
domain_row = of (null ∷ null ∷ null ∷ null ∷ null ∷ of (text_cell (codes "d") ∷ text_cell (codes "c") ∷ atom (flag false) ∷ []) ∷ null ∷ null ∷ [])

abbrev pub mark_row : Datum
mark_row = of (null ∷ null ∷ null ∷ null ∷ null ∷ null ∷ of (number 4 ∷ []) ∷ null ∷ [])

abbrev pub sidecar_row : Datum
sidecar_row = of (null ∷ null ∷ null ∷ null ∷ null ∷ null ∷ null ∷ of (text_cell (codes "s.parquet") ∷ number 8 ∷ number 9 ∷ []) ∷ [])

abbrev pub two_kinds_row : Datum
two_kinds_row = of (null ∷ null ∷ null ∷ null ∷ null ∷ of (text_cell (codes "d") ∷ text_cell (codes "c") ∷ atom (flag false) ∷ []) ∷ of (number 4 ∷ []) ∷ null ∷ [])

-- the row means this action
abbrev pub IsRowOf : Datum → Action → Type 0
IsRowOf row meant = row_means row ≡ Some (Some meant)

abbrev pub file_of : Bool → Action
file_of vector = an_add (codes "a") (pos 1) vector

-- what these rows mean
pub record RowsMean : Type 0 where
  pub txn_is : IsRowOf txn_row (action.Txn (record { app_id = codes "g"; version = pos 3; last_updated = None }))
  pub no_vector : IsRowOf (add_row null) (file_of false)
  pub empty_vector : IsRowOf (add_row (of (null ∷ []))) (file_of false)
  pub with_vector : IsRowOf (add_row (of (text_cell (codes "u") ∷ []))) (file_of true)
  pub remove_is : IsRowOf (remove_row (text_cell (codes "a"))) (action.Remove (record { path = codes "a"; deletion_timestamp = pos 7; data_change = false }))
  pub metadata_is : IsRowOf metadata_row (action.Metadata (record { id = codes "t"; name = None; description = None; provider = codes "parquet"; options = []; schema_string = codes "s"; partition_columns = codes "p" ∷ []; created_time = None; configuration = (codes "k", None) ∷ [] }))
  pub protocol_is : IsRowOf protocol_row (action.Protocol (record { min_reader = 3; min_writer = 7; reader_features = Some []; writer_features = Some (codes "f" ∷ []) }))
  pub domain_is : IsRowOf domain_row (action.Domain (record { domain = codes "d"; configuration = codes "c"; removed = false }))
  pub mark_is : IsRowOf mark_row (action.CheckpointMeta (record { version = 4 }))
  pub sidecar_is : IsRowOf sidecar_row (action.Sidecar (record { path = codes "s.parquet"; size = pos 8; stamp = pos 9 }))
  pub passed_over : row_means nothing_said ≡ Some None
  pub two_kinds : row_means two_kinds_row ≡ None
  pub no_path : row_means (remove_row null) ≡ None
