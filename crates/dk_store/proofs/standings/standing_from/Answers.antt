use Rattle.std.proofs.Common.{arith, ◌≡◌, ◌∙◌, ap, sym, map, filter, nat_le}
use Rattle.std.proofs.lemmas.Grind.{common_steps}
use Rattle.dk_store.specs.Views.{ratification}
use Rattle.dk_store.specs.Settled.{named}
use Rattle.dk_store.proofs.Named.{entries-named_map}
use Rattle.dk_store.proofs.standings.standing_from.Goals as goal

-- the entries of the map, whose keys rise, are those of the finite map
pub returns : goal.returns
returns c =
    let shown : map ratification c.loop-version.found.items ≡ filter (λ e. nat_le c.args.from e.0) (map named c.args.standing.now.entries) = grind (arith, common_steps) in
    shown ∙ ap (filter (λ e. nat_le c.args.from e.0)) (sym (entries-named_map c.args.standing.now.entries c.into_iter-version-iterator.ensures.into_iter_gives.5))
