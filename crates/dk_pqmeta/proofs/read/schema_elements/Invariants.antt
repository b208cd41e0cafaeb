use Rattle.std.proofs.Common.{◌≡◌, map}
use Rattle.std.specs.Vec.Iter.{into_iter_items}
use Rattle.dk_pqmodel.specs.Footer.{each_of, schema_element}
use Rattle.dk_pqmeta.specs.Kept.{element_kept}
use Rattle.dk_pqmeta.specs.View.{each_behind, element_view}
use Rattle.dk_pqmeta.proofs.read.schema_elements.Given as goal

abbrev pub invariant-loop-element : goal.invariant-loop-element
invariant-loop-element l =
    each_behind (map element_view l.elements.items) (each_of schema_element (map element_kept (into_iter_items l.element-iterator))) ≡ each_of schema_element (map element_kept l.fn.schema.items)
