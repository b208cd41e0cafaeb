use Rattle.std.proofs.Common.{arith, ◌≡◌, ◌+◌, take, true, sym, subst}
use Rattle.std.proofs.lemmas.Grind.{common_steps}
use Rattle.std.specs.Prelude.{ℕ, List, None, is_some}
use Rattle.std.specs.Borrow.{Bor}
use Rattle.std.specs.Ordering.{nat_cmp}
use Rattle.std.specs.BTreeMap.{BTreeMap, get}
use Rattle.dk_segment.specs.CommitIndex.{HasRatifiedNames}
use Rattle.dk_segment.proofs.Sets.{names_more, names_same}
use Rattle.dk_segment.proofs.commit_index.ratified_names.Goals as goal
use Rattle.dk_segment.proofs.commit_index.ratified_names.Goals.{then-not-contains_key+in_ok-insert, else-not-contains_key}

pub loop-ratification-preserved : goal.loop-ratification-preserved
loop-ratification-preserved c = elim c.if-not-contains_key.branch [
  | then-not-contains_key+in_ok-insert w ↦
      let absent : get nat_cmp c.loop-ratification.names c.ratification-item.result.version ≡ None = grind (arith, common_steps) in
      subst (λ (names : BTreeMap ℕ (Bor (List ℕ))). HasRatifiedNames names (take (c.loop-ratification.ratification-index + 1) c.args.ratified.now)) (sym w.names-is)
      (names_more c.loop-ratification.names w.insert.new.self c.args.ratified.now c.loop-ratification.ratification-index c.ratification-item.result w.as_str.result c.loop-ratification-test.true c.ratification-item.is
      w.as_str.ensures.value absent c.loop-ratification.invariant w.in_ok-insert.ensures.updates)
  | else-not-contains_key w ↦
      let there : is_some (get nat_cmp c.loop-ratification.names c.ratification-item.result.version) ≡ true = grind (arith, common_steps) in
      subst (λ (names : BTreeMap ℕ (Bor (List ℕ))). HasRatifiedNames names (take (c.loop-ratification.ratification-index + 1) c.args.ratified.now)) (sym w.names-is)
      (names_same c.loop-ratification.names c.args.ratified.now c.loop-ratification.ratification-index c.ratification-item.result c.loop-ratification-test.true c.ratification-item.is there c.loop-ratification.invariant)
]
