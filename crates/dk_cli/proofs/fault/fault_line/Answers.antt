use Rattle.std.proofs.Common.{rules, string_bytes}
use Rattle.serde_json.specs.View.{view}
use Rattle.dk_cli.proofs.FaultTexts.{line_is}
use Rattle.dk_cli.proofs.fault.fault_line.Goals as goal

pub returns-in_ok-to_string-in-Some : goal.returns-in_ok-to_string-in-Some
returns-in_ok-to_string-in-Some c = line_is c.args.status.now (view c.in-Some.value) (string_bytes c.in_ok-to_string-in-Some.field-0) (search rules) c.in_ok-to_string-in-Some.ensures.text
