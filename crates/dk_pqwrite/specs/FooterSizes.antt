-- How many bytes the parts of a footer have at most.
use Rattle.std.specs.Prelude.{ℕ, ◌+◌, ◌/◌, min, List, length, sum_by, Option, Some, None}
use Rattle.dk_pqmodel.specs.Projection.{Path}
use Rattle.dk_pqwrite.specs.Said.{ElementSaid}

-- a name behind its length, which has a byte for names below 64 bytes, and never more than ten
abbrev pub name_size : List ℕ → ℕ
name_size name = length name + min (1 + length name / 64) 10

abbrev pub named_size : Option (List ℕ) → ℕ
named_size None = 0
named_size (Some name) = name_size name

-- an element of the schema
abbrev pub element_size : ElementSaid → ℕ
element_size fields = 26 + named_size fields.read.name

-- what is said of a column with this path
abbrev pub chunk_size : Path → ℕ
chunk_size path = 100 + sum_by name_size path
