-- The elements that spell the schema that is written.
use Rattle.std.specs.Prelude.{◌≡◌, ◌≤◌, ◌==◌, if◌then◌else◌, ℕ, ℤ, pos, List, [], ◌∷◌, ◌++◌, length, sum_by, Option, Some, None, option_map}
use Rattle.dk_grammar.specs.Lists.{SpellsEach}
use Rattle.dk_thrift.specs.Writing.{WrittenSoFar, IsOpen, with_bytes}
use Rattle.std.specs.Ordering.{int_eq}
use Rattle.dk_pqmodel.specs.FileSchema.{FileNode, file_node, FileNodes, no_nodes, one_node, children_of, is_repeated}
use Rattle.dk_pqmodel.specs.Footer.{Element, count_of, each_of, schema_element, flat, flat_of}
use Rattle.dk_pqwrite.specs.declared.element.Element as written
use Rattle.dk_pqwrite.specs.Said.{ElementSaid, SpellsElementSaid}
use Rattle.dk_pqwrite.specs.FooterSizes.{element_size}
use Rattle.dk_pqwrite.specs.Items.{Item, text_item, optional_items, WritesValue}

-- the fields of an element, those that are there
abbrev pub element_items : List ℕ → Option ℕ → Option ℕ → Option ℕ → Option ℕ → List Item
element_items name repetition physical children converted =
    optional_items 1 5 physical ++ (optional_items 3 5 repetition ++ (text_item 4 name ∷ (optional_items 5 5 children ++ optional_items 6 5 converted)))

abbrev pub fields_said : List ℕ → Option ℕ → Option ℕ → Option ℕ → Option ℕ → ElementSaid
fields_said name repetition physical children converted =
    record {
      read = record { physical = option_map pos physical; repetition = option_map pos repetition; name = Some name; children = option_map pos children };
      converted = option_map pos converted;
    }

-- and all that an element says
abbrev pub fields_of_element : written.Element → ElementSaid
fields_of_element e = fields_said e.name.now e.repetition e.physical e.children e.converted

-- the element that is read of it
abbrev pub read_element : ElementSaid → Option Element
read_element said = schema_element said.read

-- What other readers take a node for, beyond its physical type: a text is UTF8, 0. A group of one repeated group is a LIST, 3, where that
-- has one field, and else a MAP, 1.
abbrev pub converted_group : FileNodes → Option ℕ
converted_group no_nodes = None
converted_group (one_node n no_nodes) = if is_repeated n then (if count_of (children_of n) == 1 then Some 3 else Some 1) else None
converted_group (one_node n (one_node m ns)) = None

abbrev pub converted_said : Option ℤ → FileNodes → Option ℕ
converted_said (Some physical) children = if int_eq physical (pos 6) then Some 0 else None
converted_said None children = converted_group children

-- a group says how many children it has, a leaf nothing
abbrev pub children_said : Option ℤ → FileNodes → Option ℕ
children_said (Some physical) children = None
children_said None children = Some (count_of children)

abbrev pub element_said : FileNode → ElementSaid
element_said (file_node name repetition physical children) =
    record {
      read = record { physical = physical; repetition = Some (pos repetition); name = Some name; children = option_map pos (children_said physical children) };
      converted = option_map pos (converted_said physical children);
    }

-- a node's element, and then those of its children
abbrev mutual
  pub said : FileNode → List ElementSaid
  said (file_node name repetition physical children) = element_said (file_node name repetition physical children) ∷ said_of children

  pub said_of : FileNodes → List ElementSaid
  said_of no_nodes = []
  said_of (one_node n ns) = said n ++ said_of ns

-- the element of a node
abbrev pub head_of : FileNode → Element
head_of (file_node name repetition physical children) = record { name = name; repetition = Some (pos repetition); physical = physical; children = count_of children }

-- The element says the node, and is read so.
pub record IsElementOf (fields : ElementSaid) (node : FileNode) : Type 0 where
  pub said : fields ≡ element_said node
  pub read : read_element (element_said node) ≡ Some (head_of node)

-- The bytes of one element are added.
abbrev pub WritesElement : ElementSaid → WrittenSoFar → WrittenSoFar → Type 0
WritesElement fields old new = WritesValue SpellsElementSaid fields (element_size fields) old new

-- Elements are added that are read as these, and the current struct goes on.
pub record WritesElements (fields : List ElementSaid) (elements : List Element) (old new : WrittenSoFar) : Type 0 where
  pub more : List ℕ
  pub written : new ≡ with_bytes more old
  pub spelled : SpellsEach SpellsElementSaid more fields
  pub size : length more ≤ sum_by element_size fields
  pub read : each_of read_element fields ≡ Some elements
  pub goes_on : IsOpen new

abbrev pub WritesNode : FileNode → WrittenSoFar → WrittenSoFar → Type 0
WritesNode node old new = WritesElements (said node) (flat node) old new

abbrev pub WritesNodes : FileNodes → WrittenSoFar → WrittenSoFar → Type 0
WritesNodes nodes old new = WritesElements (said_of nodes) (flat_of nodes) old new
