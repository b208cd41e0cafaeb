use Rattle.std.proofs.Common.{arith, ◌≡◌, ◌+◌, take, map, true, refl, sym, subst}
use Rattle.std.proofs.lemmas.Grind.{common_steps}
use Rattle.std.specs.Prelude.{ℕ, List, None, is_some}
use Rattle.std.specs.Borrow.{Bor}
use Rattle.std.specs.BTreeMap.{BTreeMap, get}
use Rattle.dk_store.specs.Views.{listed}
use Rattle.dk_snapshot.specs.Sizes.{HasSizes, name_order}
use Rattle.dk_snapshot.proofs.SizeMaps.{sizes_more, sizes_same}
use Rattle.dk_snapshot.proofs.sidecar_folder.entry_sizes.Goals as goal
use Rattle.dk_snapshot.proofs.sidecar_folder.entry_sizes.Goals.{then-not-contains_key+in_ok-insert, else-not-contains_key}

pub loop-entry-preserved : goal.loop-entry-preserved
loop-entry-preserved c = elim c.if-not-contains_key.branch [
  | then-not-contains_key+in_ok-insert w ↦
      let absent : get name_order c.loop-entry.sizes c.as_str-name.result ≡ None = grind (arith, common_steps) in
      subst (λ (sizes : BTreeMap (Bor (List ℕ)) ℕ). HasSizes sizes (map listed (take (c.loop-entry.entry-index + 1) c.args.entries.now))) (sym w.sizes-is)
      (sizes_more listed c.loop-entry.sizes w.insert.new.self c.args.entries.now c.loop-entry.entry-index c.entry-item.result c.as_str-name.result _ c.loop-entry-test.true c.entry-item.is
      c.as_str-name.ensures.value refl absent c.loop-entry.invariant w.in_ok-insert.ensures.updates)
  | else-not-contains_key w ↦
      let there : is_some (get name_order c.loop-entry.sizes c.as_str-name.result) ≡ true = grind (arith, common_steps) in
      subst (λ (sizes : BTreeMap (Bor (List ℕ)) ℕ). HasSizes sizes (map listed (take (c.loop-entry.entry-index + 1) c.args.entries.now))) (sym w.sizes-is)
      (sizes_same listed c.loop-entry.sizes c.args.entries.now c.loop-entry.entry-index c.entry-item.result c.as_str-name.result c.loop-entry-test.true c.entry-item.is c.as_str-name.ensures.value there c.loop-entry.invariant)
]
