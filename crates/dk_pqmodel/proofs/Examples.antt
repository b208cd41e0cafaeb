-- Worked rows, computed: their triples, their object, their weight.
use Rattle.std.proofs.Common.{◌≡◌, ℕ, ◌+◌, ◌*◌, [], ◌∷◌, true, Some, None, refl, pos, arith}
use Rattle.serde_json.specs.Data as json
use Rattle.serde_json.specs.Data.{member, no_members}
use Rattle.dk_pqmodel.specs.Shape.{Fields, field, no_fields, one_field}
use Rattle.dk_pqmodel.specs.Shape as shape
use Rattle.dk_pqmodel.specs.Datum.{Datum, null, atom, group, list, Cells, no_cells, one_cell, chars, int}
use Rattle.dk_pqmodel.specs.Triples.{triples}
use Rattle.dk_pqmodel.specs.Schema.{IsSchema}
use Rattle.dk_pqmodel.specs.Object.{data_of}
use Rattle.dk_pqmodel.specs.Weight.{weight, most_bytes}

-- an optional list of optional texts
abbrev the_fields : Fields
the_fields = one_field (field (110 ∷ []) true (shape.list (field [] true (shape.leaf shape.chars)))) no_fields

abbrev x : Datum
x = atom (chars (120 ∷ []))

abbrev row : Datum → Datum
row c = group (one_cell c no_cells)

-- null, the empty list, the list of one null, the list of x
abbrev the_rows : Cells
the_rows = one_cell (row null) (one_cell (row (list no_cells)) (one_cell (row (list (one_cell null no_cells))) (one_cell (row (list (one_cell x no_cells))) no_cells)))

the_triples : triples the_fields the_rows
    ≡ (record { repetition = 0; definition = 0; value = None } ∷ record { repetition = 0; definition = 1; value = None }
    ∷ record { repetition = 0; definition = 2; value = None } ∷ record { repetition = 0; definition = 3; value = Some (chars (120 ∷ [])) } ∷ []) ∷ []
the_triples = refl

the_schema : IsSchema the_fields
the_schema = record { some = refl; distinct = refl; sound = refl; levels = omega arith }

-- Of the cells, 16 for each of the four lists or nulls, 16 for the null inside and 17 for x.
the_weight : weight the_rows ≡ 97
the_weight = refl

-- 1,024 for the file, two nodes whose paths have one byte, four triples and one byte of text
the_bytes : most_bytes the_fields the_rows ≡ 1024 + (1026 + 1026) + (4 * 64 + 1)
the_bytes = refl

-- a map m of numbers, and a text n
abbrev others : Fields
others = one_field (field (109 ∷ []) true (shape.map_of (field [] true (shape.leaf shape.int64)))) (one_field (field (110 ∷ []) true (shape.leaf shape.chars)) no_fields)

abbrev pair : ℕ → Datum → Datum
pair k v = group (one_cell (atom (chars (k ∷ []))) (one_cell v no_cells))

-- The last entry of the repeated key counts, the null value stays, and the null field is left out.
the_object : data_of others (group (one_cell (list (one_cell (pair 98 null) (one_cell (pair 97 (atom (int (pos 1)))) (one_cell (pair 97 (atom (int (pos 2)))) no_cells)))) (one_cell null no_cells)))
    ≡ json.object (member (109 ∷ []) (json.object (member (97 ∷ []) (json.number (json.unsigned 2)) (member (98 ∷ []) json.null no_members))) no_members)
the_object = refl
