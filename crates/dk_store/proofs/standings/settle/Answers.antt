use Rattle.std.proofs.Common.{ap, sym, ◌∙◌, nat_lt}
use Rattle.std.specs.FinMap.{insert}
use Rattle.dk_store.specs.Settled.{named_map, standings_after}
use Rattle.dk_store.specs.Views.{told_event}
use Rattle.dk_store.proofs.Named.{named_map-insert, named_map-filter}
use Rattle.dk_store.proofs.standings.settle.Goals as goal

pub returns-in_ok-insert-in-Ratified : goal.returns-in_ok-insert-in-Ratified
returns-in_ok-insert-in-Ratified c =
    named_map-insert c.args.standing.now c.insert.new.self c.in-Ratified.version c.as_str.result c.in_ok-insert-in-Ratified.ensures.updates
    ∙ ap (insert (named_map c.args.standing.now.entries) c.in-Ratified.version) c.as_str.ensures.value
    ∙ sym (ap (λ e. standings_after (named_map c.args.standing.now.entries) (told_event e)) c.in-Ratified.is)

pub returns-in-Forgotten : goal.returns-in-Forgotten
returns-in-Forgotten c =
    ap named_map c.forget.ensures
    ∙ named_map-filter (λ v. nat_lt c.in-Forgotten.upto v) c.args.standing.now.entries
    ∙ sym (ap (λ e. standings_after (named_map c.args.standing.now.entries) (told_event e)) c.in-Forgotten.is)
