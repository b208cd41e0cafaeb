use Rattle.std.proofs.Common.{ℤ, string_bytes, ap₂, ◌∙◌, to_z, of_z, w64, to_z-of_z, rules}
use Rattle.std.specs.FinMap.{insert}
use Rattle.dk_store.specs.Memory.{placed_map}
use Rattle.dk_store.proofs.Maps.{placed_map-insert}
use Rattle.dk_store.proofs.objects.place.Goals as goal

pub returns : goal.returns
returns c =
    let stored = placed_map-insert (string_bytes c.in_ok-path.path) c.args.objects.now c.insert.new.self (record { bytes = c.args.bytes; stamp = to_z w64 (of_z w64 c.args.stamp) }) c.in_ok-insert.ensures.updates in
    stored ∙ ap₂ (λ bs (t : ℤ). insert (placed_map c.args.objects.now.entries) bs (record { bytes = c.args.bytes.now; stamp = t })) (search rules) (to_z-of_z c.ranges.stamp)
