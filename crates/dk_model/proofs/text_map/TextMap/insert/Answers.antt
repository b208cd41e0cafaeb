use Rattle.std.proofs.Common.{ap, ◌∙◌, string_bytes}
use Rattle.std.specs.FinMap as map
use Rattle.dk_model.specs.Texts.{texts}
use Rattle.dk_model.proofs.TextMaps.{inserted}
use Rattle.dk_model.proofs.text_map.TextMap.insert.Goals as goal

pub returns : goal.returns
returns g c =
    inserted c.self.inside.tree c.insert.new.self (string_bytes c.into_string-key.result) c.args.value c.in_ok-insert.ensures.updates
    ∙ ap (λ k. map.insert (map.from_entries (texts c.self.inside.tree.entries)) k c.args.value) c.into_string-key.ensures
    ∙ ap (λ m. map.insert m c.args.key c.args.value) c.self.view_is
