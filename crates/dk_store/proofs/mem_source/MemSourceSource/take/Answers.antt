use Rattle.std.proofs.Common.{arith, rules, ◌∙◌, ap, length-take}
use Rattle.std.specs.Prelude.{Some}
use Rattle.dk_store.proofs.Pieces.{nothing_copied, taken_part}
use Rattle.dk_store.proofs.mem_source.MemSourceSource.take.Goals as goal

pub returns-clause-takes : goal.returns-clause-takes
returns-clause-takes c = record {
  bytes = ap Some (taken_part _ c.copy_from_slice.new.self _ _ c.min-count.result (search rules) (c.copy_from_slice.ensures.len ∙ simp length-take (omega arith)));
  at_end = λ none. nothing_copied _ c.args.buf.now c.args.self.now.at c.min-count.result (search rules) none;
  later = search rules;
  failed = search rules;
}
