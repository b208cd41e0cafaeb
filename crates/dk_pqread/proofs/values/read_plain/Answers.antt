use Rattle.std.proofs.Common.{◌<◌, map, arith}
use Rattle.std.proofs.lemmas.List.Elements.{All-from_get_or}
use Rattle.dk_pqmodel.specs.ColumnView.{value_of}
use Rattle.dk_pqread.specs.LeafView.{leaf_of}
use Rattle.dk_pqread.proofs.FlagKinds.{other_kind}
use Rattle.dk_pqread.proofs.ValueReading.{values_in, plain_flags_found, plains_stand, plains_refused}
use Rattle.dk_pqread.proofs.values.read_plain.Goals as goal

pub returns-in-Flag : goal.returns-in-Flag
returns-in-Flag c =
    rw c.in-Flag.is
    (plain_flags_found values_in c.plain_flags.result c.args.count c.args.bytes.now (All-from_get_or (λ byte. byte < 256) c.args.bytes.now 0 (λ i h. omega (arith, c.type_inv.bytes i))) c.plain_flags.ensures)

pub returns-in-Ok : goal.returns-in-Ok
returns-in-Ok c =
    plains_stand (leaf_of c.args.kind) c.args.count c.args.bytes.now c.in-Ok._rest.now (map value_of c.in-Ok.values.items) (other_kind c.args.kind c.in-Int32.is)
    (All-from_get_or (λ byte. byte < 256) c.args.bytes.now 0 (λ i h. omega (arith, c.type_inv.bytes i))) c.in-Ok.ensures

pub returns-in-Err : goal.returns-in-Err
returns-in-Err c = plains_refused (leaf_of c.args.kind) c.args.count c.args.bytes.now c.in-Err.fault (other_kind c.args.kind c.in-Int32.is) c.in-Err.ensures
