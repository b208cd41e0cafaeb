-- The pieces of a format are those of the spelling.
use Rattle.dk_paths.proofs.spelling.LogNameDisplay.fmt.Goals as goal

pub returns-in-Part-clause-writes : goal.returns-in-Part-clause-writes
returns-in-Part-clause-writes g c = rw c.in-Part.is c.write-in-Part.ensures.writes

pub returns-in-V2Json-clause-writes : goal.returns-in-V2Json-clause-writes
returns-in-V2Json-clause-writes g c = rw c.in-V2Json.is c.write-in-V2Json.ensures.writes

pub returns-in-V2Parquet-clause-writes : goal.returns-in-V2Parquet-clause-writes
returns-in-V2Parquet-clause-writes g c = rw c.in-V2Parquet.is c.write-in-V2Parquet.ensures.writes
