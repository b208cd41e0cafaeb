use Rattle.std.proofs.lemmas.Result.{on_ok_weaker}
use Rattle.dk_levels.specs.Borrowed.{borrowed_triple}
use Rattle.std.proofs.Common.{map}
use Rattle.dk_pqwrite.proofs.AddingPlain.{flags_in_plain}
use Rattle.dk_pqwrite.proofs.values.add_plain.Goals as goal

pub returns-in_ok-flags-in-Flag : goal.returns-in_ok-flags-in-Flag
returns-in_ok-flags-in-Flag c =
    let fits = rw c.in-Flag.is at c.requires in
    let added = rw c.deref.ensures.value at c.add_flags.ensures in
    rw c.in-Flag.is
    (on_ok_weaker c.add_flags.result (λ h. flags_in_plain (map borrowed_triple c.args.triples.now) c.in_ok-flags-in-Flag.flags.items c.args.out.now.items c.add_flags.new.out.items fits
    c.in_ok-flags-in-Flag.ensures h) added)
