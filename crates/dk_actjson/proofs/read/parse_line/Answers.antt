use Rattle.std.proofs.Common.{ap, subst, sym, ◌∙◌}
use Rattle.json.specs.Value.{value_view}
use Rattle.serde_json.specs.Read.{read}
use Rattle.dk_model.proofs.LinesBack.{json_some}
use Rattle.dk_actjson.specs.Faults.{GivesBy}
use Rattle.dk_actjson.specs.Seen.{seen}
use Rattle.dk_actjson.proofs.LineTurns.{json_none}
use Rattle.dk_actjson.proofs.read.parse_line.Goals as goal

pub returns-in_default : goal.returns-in_default
returns-in_default c = json_none c.args.line.now c.in_default.ensures

pub returns : goal.returns
returns c = subst (GivesBy (λ v. seen (value_view v)) c.parse.result) (ap read c.in-Ok.ensures.0 ∙ sym (json_some c.args.line.now c.in-Ok.ensures.1)) c.parse.ensures
