use Rattle.dk_pqmeta.proofs.Texts.{name_read, name_refused}
use Rattle.dk_pqmeta.proofs.values.read_name.Goals as goal

pub returns-in_ok-from_str-in-Ok : goal.returns-in_ok-from_str-in-Ok
returns-in_ok-from_str-in-Ok c =
    let said = c.in-Ok.ensures.cases in
    let read = rw (said.0) at c.in_ok-from_str-in-Ok.ensures.ok in
    (name_read c.args.reader.now.rest c.in_ok-bytes.bytes.now c.binary.new.self.rest _ c.in_ok-bytes.ensures.exact.0 said.1 read, c.in_ok-bytes.ensures.exact.1)

pub returns-in-Err : goal.returns-in-Err
returns-in-Err c = name_refused c.args.reader.now.rest c.in_ok-bytes.bytes.now c.binary.new.self.rest c.in_ok-bytes.ensures.exact.0 c.in-Err.ensures.cases.0
