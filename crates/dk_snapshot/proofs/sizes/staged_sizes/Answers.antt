use Rattle.std.proofs.Common.{arith, ◌≡◌, ◌+◌, take, map, true, refl, sym, subst}
use Rattle.std.proofs.lemmas.Grind.{common_steps}
use Rattle.std.specs.Prelude.{ℕ, List, None, is_some}
use Rattle.std.specs.Borrow.{Bor}
use Rattle.std.specs.BTreeMap.{BTreeMap, get}
use Rattle.dk_store.specs.Views.{listed}
use Rattle.dk_snapshot.specs.Sizes.{HasSizes, name_order}
use Rattle.dk_snapshot.proofs.SizeMaps.{sizes_more, sizes_same}
use Rattle.dk_snapshot.proofs.sizes.staged_sizes.Goals as goal
use Rattle.dk_snapshot.proofs.sizes.staged_sizes.Goals.{then-not-contains_key+in_ok-insert, else-not-contains_key}

pub loop-commit-preserved : goal.loop-commit-preserved
loop-commit-preserved c = elim c.if-not-contains_key.branch [
  | then-not-contains_key+in_ok-insert w ↦
      let absent : get name_order c.loop-commit.sizes c.as_str-name.result ≡ None = grind (arith, common_steps) in
      subst (λ (sizes : BTreeMap (Bor (List ℕ)) ℕ). HasSizes sizes (map (λ one. listed one.entry) (take (c.loop-commit.commit-index + 1) c.args.staged.now))) (sym w.sizes-is)
      (sizes_more (λ one. listed one.entry) c.loop-commit.sizes w.insert.new.self c.args.staged.now c.loop-commit.commit-index c.commit-item.result c.as_str-name.result _ c.loop-commit-test.true c.commit-item.is
      c.as_str-name.ensures.value refl absent c.loop-commit.invariant w.in_ok-insert.ensures.updates)
  | else-not-contains_key w ↦
      let there : is_some (get name_order c.loop-commit.sizes c.as_str-name.result) ≡ true = grind (arith, common_steps) in
      subst (λ (sizes : BTreeMap (Bor (List ℕ)) ℕ). HasSizes sizes (map (λ one. listed one.entry) (take (c.loop-commit.commit-index + 1) c.args.staged.now))) (sym w.sizes-is)
      (sizes_same (λ one. listed one.entry) c.loop-commit.sizes c.args.staged.now c.loop-commit.commit-index c.commit-item.result c.as_str-name.result c.loop-commit-test.true c.commit-item.is c.as_str-name.ensures.value there c.loop-commit.invariant)
]
