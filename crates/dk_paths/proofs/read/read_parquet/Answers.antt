-- A middle that is neither a UUID nor a part names nothing.
use Rattle.std.proofs.Common.{◌++◌, codes}
use Rattle.dk_paths.proofs.Spelled.{no_kind, no_middle}
use Rattle.dk_paths.proofs.read.read_parquet.Goals as goal

pub returns-in-None : goal.returns-in-None
returns-in-None c = no_kind c.args.version (c.args.middle.now ++ codes ".parquet") c.requires
    (no_middle c.args.middle.now (record { no_id = c.in_default.ensures; no_pair = c.in-None.ensures }))
