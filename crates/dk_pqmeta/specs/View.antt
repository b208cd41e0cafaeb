-- What a footer is as plain data, apart from where it lies in memory.
use Rattle.std.specs.Prelude.{◌≡◌, Option, Some, None, option_map, option_and_then, if◌then◌else◌, Result, Ok, Err, List, [], ◌∷◌, ◌++◌, map, string_bytes, String, Vec}
use Rattle.std.specs.Global.{Global}
use Rattle.dk_pqmodel.specs.Projection.{Path}
use Rattle.dk_pqmodel.specs.FileSchema.{FileNode, file_node, FileNodes, no_nodes, one_node}
use Rattle.dk_pqmodel.specs.Footer as plain
use Rattle.dk_pqmeta.specs.declared.footer.Footer.{Footer}
use Rattle.dk_pqmeta.specs.declared.footer.RowGroup.{RowGroup}
use Rattle.dk_pqmeta.specs.declared.footer.Chunk.{Chunk}
use Rattle.dk_pqmeta.specs.declared.footer.FileNode as code
use Rattle.dk_pqmeta.specs.declared.footer.FileNode.{fold-FileNode}
use Rattle.dk_pqmeta.specs.declared.footer.FileNode.TheOpen.{FileNode-F}
use Rattle.dk_pqmeta.specs.declared.tree.SchemaElement.{SchemaElement}
use Rattle.dk_pqmeta.specs.declared.fault.MetaFault.{MetaFault}
use Rattle.dk_pqmeta.specs.declared.fault.MetaFault.TheVariants.{Broken, OutOfMemory}

abbrev pub chunk_view : Chunk → plain.Chunk
chunk_view c = record { physical = c.physical; codec = c.codec; values = c.values; first_page = c.first_page; dictionary_page = c.dictionary_page }

-- What is made of parts that were read, where they make something.
abbrev pub MakesOf : {X Y : Type 0} → (X → Y) → Result X MetaFault → Option Y → Type 0
MakesOf view (Ok x) meaning = meaning ≡ Some (view x)
MakesOf view (Err Broken) meaning = meaning ≡ None
MakesOf view (Err OutOfMemory) meaning = Unit {0}

abbrev pub nodes_of_list : List FileNode → FileNodes
nodes_of_list [] = no_nodes
nodes_of_list (n ∷ ns) = one_node n (nodes_of_list ns)

abbrev pub node_step : FileNode-F FileNode → FileNode
node_step n = file_node (string_bytes n.name) n.repetition n.physical (nodes_of_list n.children.items)

abbrev pub node_of : code.FileNode → FileNode
node_of = fold-FileNode FileNode node_step

abbrev pub nodes_of : List code.FileNode → FileNodes
nodes_of ns = nodes_of_list (map node_of ns)

abbrev pub column_view : Vec (String Global) Global × Chunk → Path × plain.Chunk
column_view x = (map string_bytes x.0.items, chunk_view x.1)

abbrev pub group_view : RowGroup → plain.RowGroup
group_view g = record { rows = g.rows; columns = map column_view g.columns.entries }

abbrev pub footer_view : Footer → plain.Footer
footer_view f = record { rows = f.rows; fields = nodes_of f.fields.items; groups = map group_view f.groups.items }

abbrev pub element_view : SchemaElement → plain.Element
element_view e = record { name = string_bytes e.name; repetition = e.repetition; physical = e.physical; children = e.children }

-- What is made of the elements at the front, and those that are left.
abbrev pub TakesElements : {X Y : Type 0} → (X → Y) → Result X MetaFault → List plain.Element → Option (Y × List plain.Element) → Type 0
TakesElements view (Ok x) left meaning = meaning ≡ Some (view x, left)
TakesElements view (Err Broken) left meaning = meaning ≡ None
TakesElements view (Err OutOfMemory) left meaning = Unit {0}

-- columns done, and then those of the chunks that are left
abbrev pub columns_behind : List (Path × plain.Chunk) → List plain.ChunkFields → Option (List (Path × plain.Chunk))
columns_behind done chunks = option_and_then (λ more. if plain.is_new_each done more then Some (done ++ more) else None) (plain.each_of plain.chunk_of chunks)

-- values done, and then those that are left
abbrev pub each_behind : {A : Type 0} → List A → Option (List A) → Option (List A)
each_behind done left = option_map (λ more. done ++ more) left

abbrev pub nodes_behind : List FileNode → Option (List FileNode × List plain.Element) → Option (List FileNode × List plain.Element)
nodes_behind done left = option_map (λ x. (done ++ x.0, x.1)) left
