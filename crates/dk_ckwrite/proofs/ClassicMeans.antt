-- A file of the rows of a classic checkpoint's actions is that checkpoint.
use Rattle.std.proofs.Common.{◌≡◌, ℕ, ℤ, Bool, true, false, List, [], ◌∷◌, ◌++◌, Vec, Global, Some, Result, Ok, Err, if◌then◌else◌, refl, sym, append-nil}
use Rattle.std.specs.Prelude.{IfOk}
use Rattle.dk_pqmodel.specs.Datum.{Cells}
use Rattle.dk_model.specs.declared.action.Action.{Action}
use Rattle.dk_model.specs.declared.state.TableState.{TableState}
use Rattle.dk_model.specs.Contents.{canonical_with, is_later}
use Rattle.dk_engine.specs.declared.limits.Limits.{Limits}
use Rattle.dk_engine.specs.declared.refusal.Refusal.{Refusal}
use Rattle.dk_engine.specs.OwnFields.{MeansAlone}
use Rattle.dk_lawful.specs.Checkpoints.{InParquet, sidecars_of}
use Rattle.dk_lawful.specs.CheckpointRows.{actions_of_rows}
use Rattle.dk_lawful.specs.CheckpointSchema.{written_fields}
use Rattle.dk_lawful.specs.Contents.{has_v2, mark, classic_content}
use Rattle.dk_lawful.specs.Shares.{files_of}
use Rattle.dk_lawful.proofs.ContentLaws.{all_quiet}
use Rattle.dk_rowmap.specs.WrittenRows.{rows_read}
use Rattle.dk_ckwrite.specs.Files.{IsClassicOf, MakesFile}
use Rattle.dk_ckwrite.proofs.ReadBack.{read_back}

in_parquet : (bytes : List ℕ) (rows : Cells) (actions : List Action) → MeansAlone written_fields bytes rows → actions_of_rows (rows_read rows) ≡ Some actions → InParquet bytes actions
in_parquet bytes rows actions alone back = record { rows = rows_read rows; means = read_back bytes rows alone; read = back }

-- a file that is made of rows means the actions that they are read as
pub made_means : (limits : Limits) (rows : Cells) (result : Result (Vec ℕ Global) Refusal) (actions : List Action) → MakesFile limits rows result → actions_of_rows (rows_read rows) ≡ Some actions
    → IfOk result (λ bytes. InParquet bytes.items actions)
made_means limits rows (Ok bytes) actions made back = in_parquet bytes.items rows actions made.2.means back
made_means limits rows (Err refusal) actions made back = tt

-- a classic checkpoint names no sidecar
classic_quiet : (state : TableState) (version : ℕ) (cut : ℤ) → sidecars_of (classic_content state version cut) ≡ Some []
classic_quiet state version cut = by (has_v2 state)
  where
    by : (marks : Bool) → sidecars_of ((if marks then mark version ∷ [] else []) ++ canonical_with state (is_later cut) (files_of state)) ≡ Some []
    by true = all_quiet state cut (files_of state)
    by false = all_quiet state cut (files_of state)

is_classic : (bytes : List ℕ) (state : TableState) (version : ℕ) (cut : ℤ) → InParquet bytes (classic_content state version cut) → IsClassicOf bytes version (classic_content state version cut)
is_classic bytes state version cut means events path stands = record {
  top = record { actions = classic_content state version cut; sidecars = [] };
  means = (bytes, stands, record { means = means; named = classic_quiet state version cut });
  sides = [];
  sides_mean = refl;
  all = sym (append-nil (classic_content state version cut));
}

-- and so it is one wherever it stands
pub made_is_classic : (result : Result (Vec ℕ Global) Refusal) (state : TableState) (version : ℕ) (cut : ℤ) → IfOk result (λ bytes. InParquet bytes.items (classic_content state version cut))
    → IfOk result (λ bytes. IsClassicOf bytes.items version (classic_content state version cut))
made_is_classic (Ok bytes) state version cut means = is_classic bytes.items state version cut means
made_is_classic (Err refusal) state version cut means = tt
