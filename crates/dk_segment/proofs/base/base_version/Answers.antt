use Rattle.std.proofs.Common.{arith, ◌≡◌, ◌≤◌, take, sym, subst, ap, ◌∙◌, ℕ, List}
use Rattle.std.proofs.lemmas.List.{take_all}
use Rattle.std.specs.Prelude.{Option, IfSome}
use Rattle.dk_paths.specs.declared.log_name.LogName.{LogName}
use Rattle.dk_listing.specs.Newest.{newest_by}
use Rattle.dk_segment.specs.Places.{allowed_version}
use Rattle.dk_segment.proofs.Reached.{allowed_within}
use Rattle.dk_segment.proofs.base.base_version.Goals as goal

pub returns-clause-within : goal.returns-clause-within
returns-clause-within c =
    let names = c.args.names.now in
    let all : take c.loop-name.name-index names ≡ names = take_all c.loop-name.name-index names (omega arith) in
    let is : c.loop-name.best ≡ newest_by (allowed_version c.args.allowed c.args.asked) names =
    c.loop-name.invariant ∙ ap (λ (ns : List LogName). newest_by (allowed_version c.args.allowed c.args.asked) ns) all in
    subst (λ (o : Option ℕ). IfSome o (λ v. v ≤ c.args.asked)) (sym is) (allowed_within c.args.allowed c.args.asked names)
