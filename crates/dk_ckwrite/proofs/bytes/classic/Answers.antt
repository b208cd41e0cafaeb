use Rattle.std.proofs.Common.{◌≡◌, List, sym, ap, subst, ◌∙◌, Some}
use Rattle.std.specs.List.{AllByRecursion}
use Rattle.std.proofs.lemmas.Int.{to_z-of_z}
use mir.Syntax.{w64}
use Rattle.dk_pqmodel.specs.Datum.{Cells}
use Rattle.dk_pqmodel.specs.RowView.{rows_of}
use Rattle.dk_model.specs.declared.action.Action.{Action}
use Rattle.dk_model.specs.ReadBack.{IsReadable, written_of}
use Rattle.dk_lawful.specs.CheckpointRows.{actions_of_rows}
use Rattle.dk_lawful.specs.CheckpointSchema.{written_fields}
use Rattle.dk_lawful.specs.Contents.{classic_content}
use Rattle.dk_rowmap.specs.ActionRows.{rows_for}
use Rattle.dk_rowmap.specs.WrittenRows.{rows_read}
use Rattle.dk_ckwrite.specs.Files.{MakesFile}
use Rattle.dk_ckwrite.proofs.Readable.{classic_readable, classic_written}
use Rattle.dk_ckwrite.proofs.ClassicMeans.{made_means, made_is_classic}
use Rattle.dk_ckwrite.proofs.bytes.classic.Goals as goal

-- the actions are the content
pub rows_of_actions-requires : goal.rows_of_actions-requires
rows_of_actions-requires g c =
    let same : c.deref.result.now ≡ classic_content c.args.state.now c.args.version c.args.cut =
    c.deref.ensures.value ∙ c.in_ok-actions.ensures.content ∙ ap (classic_content c.args.state.now c.args.version) (to_z-of_z w64 c.args.cut c.ranges.cut) in
    subst (AllByRecursion IsReadable) (sym same) (classic_readable c.args.state.now c.args.version c.args.cut c.requires.kept c.requires.vectorless c.requires.version)

pub returns-clause-content : goal.returns-clause-content
returns-clause-content g c =
    let same : c.deref.result.now ≡ classic_content c.args.state.now c.args.version c.args.cut =
    c.deref.ensures.value ∙ c.in_ok-actions.ensures.content ∙ ap (classic_content c.args.state.now c.args.version) (to_z-of_z w64 c.args.cut c.ranges.cut) in
    let back : actions_of_rows (rows_read (rows_of c.deref-2.result.now)) ≡ Some (classic_content c.args.state.now c.args.version c.args.cut) =
    ap (λ rows. actions_of_rows (rows_read (rows_of rows))) c.deref-2.ensures.value ∙ c.in_ok-rows.ensures.back
    ∙ ap (λ (actions : List Action). Some (written_of actions)) same ∙ ap Some (classic_written c.args.state.now c.args.version c.args.cut) in
    made_means c.args.limits.now (rows_of c.deref-2.result.now) c.file_of.result (classic_content c.args.state.now c.args.version c.args.cut) c.file_of.ensures back

pub returns-clause-means : goal.returns-clause-means
returns-clause-means g c = made_is_classic c.file_of.result c.args.state.now c.args.version c.args.cut (returns-clause-content g c)

pub returns-clause-limits : goal.returns-clause-limits
returns-clause-limits g c =
    let same : c.deref.result.now ≡ classic_content c.args.state.now c.args.version c.args.cut =
    c.deref.ensures.value ∙ c.in_ok-actions.ensures.content ∙ ap (classic_content c.args.state.now c.args.version) (to_z-of_z w64 c.args.cut c.ranges.cut) in
    let rows : rows_of c.deref-2.result.now ≡ rows_for written_fields (classic_content c.args.state.now c.args.version c.args.cut) =
    ap rows_of c.deref-2.ensures.value ∙ c.in_ok-rows.ensures.rows ∙ ap (λ (actions : List Action). rows_for written_fields (written_of actions)) same
    ∙ ap (rows_for written_fields) (classic_written c.args.state.now c.args.version c.args.cut) in
    subst (λ (rows : Cells). MakesFile c.args.limits.now rows c.file_of.result) rows c.file_of.ensures
