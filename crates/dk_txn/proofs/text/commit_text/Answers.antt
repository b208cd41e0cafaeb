use Rattle.std.proofs.Common.{rules, subst}
use Rattle.std.proofs.lemmas.Int.{to_z-of_z}
use mir.Syntax.{w64}
use Rattle.dk_model.specs.Ranges.{IsWhole}
use Rattle.dk_paths.specs.Numbers.{id_text}
use Rattle.dk_txn.proofs.Readable.{text_reads}
use Rattle.dk_txn.proofs.text.commit_text.Goals as goal

pub returns-clause-reads_back : goal.returns-clause-reads_back
returns-clause-reads_back g c = λ each.
    text_reads (id_text c.args.id) c.args.now c.args.actions.now c.extend_from_slice.new.self.items c.in_ok-text.ensures.utf8 (subst IsWhole (to_z-of_z w64 c.args.now c.ranges.now) c.in_ok-text.ensures.range) c.in_ok-lines.ensures.sound (search rules) each
