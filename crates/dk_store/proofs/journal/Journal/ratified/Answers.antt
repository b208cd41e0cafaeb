use Rattle.std.proofs.Common.{arith, ◌≡◌, map, sym, ◌∙◌}
use Rattle.std.specs.Prelude.{IfOk}
use Rattle.std.proofs.lemmas.Grind.{common_steps}
use Rattle.std.proofs.lemmas.Result.{IfOk-weaker}
use Rattle.dk_store.specs.Standings.{ratified_from}
use Rattle.dk_store.specs.Views.{ratification}
use Rattle.dk_store.specs.Journal.{journal_events}
use Rattle.dk_store.proofs.Versions.{has_versions-newest, ratified-versions}
use Rattle.dk_store.proofs.journal.Journal.ratified.Goals as goal

pub returns-clause-versions : goal.returns-clause-versions
returns-clause-versions c =
    let found : IfOk c.standing_from.result (λ found. map ratification found.items ≡ ratified_from (journal_events c.args.self.now) c.args.from) = grind (arith, common_steps) in
    IfOk-weaker c.standing_from.result _ _ (λ found is. ratified-versions (journal_events c.args.self.now) c.args.from found.items (sym (has_versions-newest c.args.self.now.events.items) ∙ c.args.self.now.versions) is) found
