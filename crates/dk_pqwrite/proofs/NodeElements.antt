-- The elements of nodes, one behind another.
use Rattle.std.proofs.Common.{◌≡◌, ◌<◌, ◌≤◌, ◌^◌, ℕ, suc, ◌+◌, Bool, true, false, ℤ, pos, Option, Some, None, option_map, option_and_then, List, [], ◌∷◌, ◌++◌, length, drop, get_or, codes, rules, IfSome, Vec, Box, Global, string_bytes, refl, sym, ap, subst, ◌∙◌, arith}
use Rattle.std.proofs.lemmas.List.{length-append, drop_all, append-nil}
use Rattle.std.proofs.lemmas.List.Sums.{sum_by-append}
use Rattle.std.proofs.lemmas.Bool.{lt-ltb}
use Rattle.dk_thrift.specs.Writing.{WrittenSoFar, IsOpen}
use Rattle.dk_pqmodel.specs.Shape.{flag, int32, int64, chars, Shape, leaf, map_of, Field, field, Fields, no_fields, one_field, shape_in, is_nullable}
use Rattle.dk_pqmodel.specs.Shape as shape
use Rattle.dk_pqmodel.specs.NodeView.{fields_of, field_of, shape_of}
use Rattle.dk_pqmodel.specs.FileSchema.{FileNode, file_node, FileNodes, no_nodes, one_node, is_repeated}
use Rattle.dk_pqmodel.specs.FileMeans.{one_if}
use Rattle.dk_pqmodel.specs.Footer.{Element, count_of, each_of, flat, flat_of}
use Rattle.dk_pqwrite.specs.Said.{ElementSaid, SpellsElementSaid}
use Rattle.dk_pqmodel.specs.declared.node.Node.{Node}
use Rattle.dk_pqmodel.specs.declared.node.NodeKind.{NodeKind, Map, the_lemmas}
use Rattle.dk_pqmodel.specs.declared.node.NodeKind as node
use Rattle.dk_pqmodel.proofs.NodeViews.{field_of-is, fields_of-drop, shape_of-List, shape_of-Map}
use Rattle.dk_pqwrite.specs.Written.{written_as, written_in, written_nodes, nodes_at, physical_at, converted_at}
use Rattle.dk_pqwrite.specs.FooterSizes.{element_size}
use Rattle.dk_pqwrite.specs.Elements.{fields_said, children_said, converted_said, converted_group, element_said, read_element, said, said_of, head_of, IsElementOf, WritesElement, WritesElements, WritesNode, WritesNodes}
use Rattle.dk_pqwrite.proofs.Structs.{bytes_behind, none_added, each_behind, one_each}

-- ---- added one behind another

some_is : {B : Type 0} (x y : B) → Some x ≡ Some y → x ≡ y
some_is x y h = cc

each_then : {A B : Type 0} (f : A → Option B) (xs zs : List A) (ys ws : List B) → each_of f xs ≡ Some ys → each_of f zs ≡ Some ws → each_of f (xs ++ zs) ≡ Some (ys ++ ws)
each_then f [] zs ys ws h k = k ∙ ap (λ front. Some (front ++ ws)) (some_is [] ys h)
each_then {A = A} {B = B} f (x ∷ xs) zs ys ws h k = by (f x) (each_of f xs) refl h (λ more g. each_then f xs zs more ws g k)
  where
    by : (first : Option B) (more : Option (List B)) → each_of f xs ≡ more → option_and_then (λ y. option_map (λ ys. y ∷ ys) more) first ≡ Some ys
        → ((more : List B) → each_of f xs ≡ Some more → each_of f (xs ++ zs) ≡ Some (more ++ ws))
        → option_and_then (λ y. option_map (λ ys. y ∷ ys) (each_of f (xs ++ zs))) first ≡ Some (ys ++ ws)
    by None more g t later = cc
    by (Some y) None g t later = cc
    by (Some y) (Some more) g t later = rw (later more g) (ap (λ o. option_map (λ front. front ++ ws) o) t)

pub elements_then : (fs gs : List ElementSaid) (es ds : List Element) (u v w : WrittenSoFar) → WritesElements fs es u v → WritesElements gs ds v w → WritesElements (fs ++ gs) (es ++ ds) u w
elements_then fs gs es ds u v w first second = record {
  more = first.more ++ second.more;
  written = bytes_behind first.more second.more u v w first.written second.written;
  spelled = each_behind SpellsElementSaid fs gs first.more second.more first.spelled second.spelled;
  size = omega (arith, first.size, second.size, length-append first.more second.more, sum_by-append element_size fs gs);
  read = each_then read_element fs gs es ds first.read second.read;
  goes_on = second.goes_on;
}

pub no_elements : (w : WrittenSoFar) → IsOpen w → WritesNodes no_nodes w w
no_elements w h = record { more = []; written = none_added w; spelled = refl; size = omega arith; read = refl; goes_on = h }

pub one_element : (f : ElementSaid) (e : Element) (u v : WrittenSoFar) → read_element f ≡ Some e → WritesElement f u v → WritesElements (f ∷ []) (e ∷ []) u v
one_element f e u v read a = record {
  more = a.more;
  written = a.written;
  spelled = one_each SpellsElementSaid f a.more a.spelled;
  size = omega (arith, a.size);
  read = rw read refl;
  goes_on = a.goes_on;
}

-- an element, and then its children's
pub node_added : (name : List ℕ) (r : ℕ) (p : Option ℤ) (ns : FileNodes) (f : ElementSaid) (u v w : WrittenSoFar) → IsElementOf f (file_node name r p ns) → WritesElement f u v → WritesNodes ns v w
    → WritesNode (file_node name r p ns) u w
node_added name r p ns f u v w is first inner =
    let n = file_node name r p ns in
    elements_then (element_said n ∷ []) (said_of ns) (head_of n ∷ []) (flat_of ns) u v w
    (one_element (element_said n) (head_of n) u v is.read (subst (λ g. WritesElement g u v) is.said first)) inner

-- one node alone, and one before others
pub only_added : (n : FileNode) (u v : WrittenSoFar) → WritesNode n u v → WritesNodes (one_node n no_nodes) u v
only_added n u v a = elements_then (said n) [] (flat n) [] u v v a (no_elements v a.goes_on)

pub more_added : (n : FileNode) (ns : FileNodes) (u v w : WrittenSoFar) → WritesNode n u v → WritesNodes ns v w → WritesNodes (one_node n ns) u w
more_added n ns u v w first more = elements_then (said n) (said_of ns) (flat n) (flat_of ns) u v w first more

-- ---- by kinds

abbrev list_node : Field → FileNode
list_node f = file_node (codes "list") 2 None (one_node (written_as (codes "element") f) no_nodes)

abbrev key_node : FileNode
key_node = file_node (codes "key") 0 (Some (pos 6)) no_nodes

abbrev map_node : Field → FileNode
map_node f = file_node (codes "key_value") 2 None (one_node key_node (one_node (written_as (codes "value") f) no_nodes))

shape_of-Group : (v : Vec Node Global) → shape_of (node.Group v) ≡ shape.group (fields_of v.items)
shape_of-Group v = search (rules, the_lemmas)

-- a group of fields that stand once is no list and no map
once : (name : List ℕ) (f : Field) → is_repeated (written_as name f) ≡ false
once name (field own true s) = refl
once name (field own false s) = refl

list_said : (f : Field) → fields_said (codes "list") (Some 2) None (Some 1) None ≡ element_said (list_node f)
list_said f = rw (once (codes "element") f) refl

pub list_added : (k : NodeKind) (b : Box Node Global) (n : Node) (f : ElementSaid) (u v w : WrittenSoFar) → k ≡ node.List b → n ≡ b.value → f ≡ fields_said (codes "list") (Some 2) None (Some 1) None → WritesElement f u v
    → WritesNode (written_as (codes "element") (field_of n)) v w → WritesNodes (nodes_at (shape_of k)) u w
list_added k b n f u v w is same named first inner =
    let e = field_of n in
    let whole = only_added (list_node e) u w (node_added (codes "list") 2 None (one_node (written_as (codes "element") e) no_nodes) f u v w (record { said = named ∙ list_said e; read = refl }) first
    (only_added (written_as (codes "element") e) v w inner)) in
    subst (λ s. WritesNodes (nodes_at s) u w) (ap (λ m. shape.list (field_of m)) same ∙ sym (ap shape_of is ∙ shape_of-List b)) whole

pub map_added : (k : NodeKind) (b : Box Node Global) (n : Node) (f g : ElementSaid) (u v w x : WrittenSoFar) → k ≡ Map b → n ≡ b.value → f ≡ fields_said (codes "key_value") (Some 2) None (Some 2) None → WritesElement f u v
    → g ≡ fields_said (codes "key") (Some 0) (Some 6) None (Some 0) → WritesElement g v w → WritesNode (written_as (codes "value") (field_of n)) w x → WritesNodes (nodes_at (shape_of k)) u x
map_added k b n f g u v w x is same named first key second inner =
    let e = field_of n in
    let value = only_added (written_as (codes "value") e) w x inner in
    let keyed = node_added (codes "key") 0 (Some (pos 6)) no_nodes g v w w (record { said = key; read = refl }) second (no_elements w second.goes_on) in
    let both = more_added key_node (one_node (written_as (codes "value") e) no_nodes) v w x keyed value in
    let whole = only_added (map_node e) u x (node_added (codes "key_value") 2 None (one_node key_node (one_node (written_as (codes "value") e) no_nodes)) f u v x (record { said = named; read = refl }) first both) in
    subst (λ s. WritesNodes (nodes_at s) u x) (ap (λ m. map_of (field_of m)) same ∙ sym (ap shape_of is ∙ shape_of-Map b)) whole

-- ---- the element of a field

pub count_is : (ns : List Node) → count_of (written_nodes (fields_of ns)) ≡ length ns
count_is [] = refl
count_is (n ∷ ns) = ap suc (count_is ns)

pub group_said : (k : NodeKind) (v : Vec Node Global) (n : ℕ) → k ≡ node.Group v → n ≡ length v.items → Some n ≡ children_said (physical_at (shape_of k)) (nodes_at (shape_of k))
group_said k v n is e = rw (is, shape_of-Group v) (ap Some (e ∙ sym (count_is v.items)))

abbrev IsCount : Option ℕ → Type 0
IsCount n = IfSome n (λ n. n < 2 ^ 31)

shape_read : (s : Shape) (name : List ℕ) (r : ℕ) → IsCount (children_said (physical_at s) (nodes_at s))
    → read_element (element_said (file_node name r (physical_at s) (nodes_at s))) ≡ Some (head_of (file_node name r (physical_at s) (nodes_at s)))
shape_read (leaf flag) name r h = refl
shape_read (leaf int32) name r h = refl
shape_read (leaf int64) name r h = refl
shape_read (leaf chars) name r h = refl
shape_read (shape.group fs) name r h = rw (lt-ltb (count_of (written_nodes fs)) (2 ^ 31) h) refl
shape_read (shape.list f) name r h = refl
shape_read (map_of f) name r h = refl

nullable_is : (b : Bool) (n : ℕ) → n ≡ one_if b → pos n ≡ pos (one_if b)
nullable_is b n e = ap pos e

once_in : (f : Field) → is_repeated (written_in f) ≡ false
once_in (field own true s) = refl
once_in (field own false s) = refl

group_plain : (fs : Fields) → converted_group (written_nodes fs) ≡ None
group_plain no_fields = refl
group_plain (one_field f no_fields) = rw (once_in f) refl
group_plain (one_field f (one_field g fs)) = refl

converted_is : (s : Shape) → converted_at s ≡ converted_said (physical_at s) (nodes_at s)
converted_is (leaf flag) = refl
converted_is (leaf int32) = refl
converted_is (leaf int64) = refl
converted_is (leaf chars) = refl
converted_is (shape.group fs) = sym (group_plain fs)
converted_is (shape.list f) = refl
converted_is (map_of f) = refl

-- a field's element, from its parts
field_said : (name : List ℕ) (f : Field) (r : ℕ) (physical children converted : Option ℕ) → converted ≡ converted_at (shape_in f) → r ≡ one_if (is_nullable f) → option_map pos physical ≡ physical_at (shape_in f)
    → children ≡ children_said (physical_at (shape_in f)) (nodes_at (shape_in f)) → IsCount children → IsElementOf (fields_said name (Some r) physical children converted) (written_as name f)
field_said name (field own b s) r physical children converted v nullable p c small = record {
  said = rw (nullable, p, c, v, converted_is s) refl;
  read = shape_read s name (one_if b) (subst IsCount c small);
}

pub own_element : (name : List ℕ) (n : Node) (r : ℕ) (physical children converted : Option ℕ) → converted ≡ converted_at (shape_of n.kind) → r ≡ one_if n.nullable → option_map pos physical ≡ physical_at (shape_of n.kind)
    → children ≡ children_said (physical_at (shape_of n.kind)) (nodes_at (shape_of n.kind)) → IsCount children → IsElementOf (fields_said name (Some r) physical children converted) (written_as name (field_of n))
own_element name n r physical children converted v nullable p c small =
    subst (λ f. IsElementOf (fields_said name (Some r) physical children converted) (written_as name f)) (sym (field_of-is n)) (field_said name (field (string_bytes n.name) n.nullable (shape_of n.kind)) r physical children converted v nullable p c small)

-- a node's element, and those below it
pub kind_added : (name : List ℕ) (n : Node) (f : ElementSaid) (u v w : WrittenSoFar) → IsElementOf f (written_as name (field_of n)) → WritesElement f u v → WritesNodes (nodes_at (shape_of n.kind)) v w
    → WritesNode (written_as name (field_of n)) u w
kind_added name n f u v w is first inner =
    let same = field_of-is n in
    subst (λ g. WritesNode (written_as name g) u w) (sym same) (node_added name (one_if n.nullable) (physical_at (shape_of n.kind)) (nodes_at (shape_of n.kind)) f u v w (subst (λ g. IsElementOf f (written_as name g)) same is) first inner)

-- ---- nodes beside one another

-- whatever adds the nodes from a place on adds all of them
abbrev pub GoesOn : List Node → ℕ → WrittenSoFar → WrittenSoFar → Type 0
GoesOn ns i old now = IsOpen now × ((new : WrittenSoFar) → WritesNodes (written_nodes (fields_of (drop i ns))) now new → WritesNodes (written_nodes (fields_of ns)) old new)

written_named : (n : Node) → written_in (field_of n) ≡ written_as (string_bytes n.name) (field_of n)
written_named n = rw (field_of-is n) refl

pub next_node : (ns : List Node) (i : ℕ) (n : Node) (old now new : WrittenSoFar) → i < length ns → n ≡ get_or ns i n → GoesOn ns i old now → WritesNode (written_as (string_bytes n.name) (field_of n)) now new
    → GoesOn ns (i + 1) old new
next_node ns i n old now new room is before added = (
  added.goes_on,
  λ last rest. before.1 last (subst (λ fs. WritesNodes (written_nodes fs) now last) (sym (fields_of-drop ns i n room is))
      (more_added (written_in (field_of n)) (written_nodes (fields_of (drop (i + 1) ns))) now new last (subst (λ m. WritesNode m now new) (sym (written_named n)) added) rest)),
)

drop_past : (ns : List Node) (i : ℕ) → length ns ≤ i → drop i ns ≡ []
drop_past ns i h = grind (arith, drop_all)

pub all_nodes : (ns : List Node) (i : ℕ) (old now : WrittenSoFar) → length ns ≤ i → GoesOn ns i old now → WritesNodes (written_nodes (fields_of ns)) old now
all_nodes ns i old now past before = before.1 now (subst (λ left. WritesNodes (written_nodes (fields_of left)) now now) (sym (drop_past ns i past)) (no_elements now before.0))

-- ---- their number

node_count : (n : Node) → length (said (written_in (field_of n))) ≡ 1 + length (said_of (nodes_at (shape_of n.kind)))
node_count n = rw (field_of-is n) (add_one (length (said_of (nodes_at (shape_of n.kind)))))
  where
    add_one : (k : ℕ) → suc k ≡ 1 + k
    add_one k = omega arith

pub counted : (ns : List Node) (i : ℕ) (n : Node) → i < length ns → n ≡ get_or ns i n
    → length (said_of (written_nodes (fields_of (drop i ns)))) ≡ 1 + length (said_of (nodes_at (shape_of n.kind))) + length (said_of (written_nodes (fields_of (drop (i + 1) ns))))
counted ns i n room is =
    rw (fields_of-drop ns i n room is, length-append (said (written_in (field_of n))) (said_of (written_nodes (fields_of (drop (i + 1) ns)))), node_count n) refl

pub counted_all : (ns : List Node) (i : ℕ) → length ns ≤ i → length (said_of (written_nodes (fields_of (drop i ns)))) ≡ 0
counted_all ns i past = rw (drop_past ns i past) refl

pub group_count : (k : NodeKind) (v : Vec Node Global) → k ≡ node.Group v → length (said_of (nodes_at (shape_of k))) ≡ length (said_of (written_nodes (fields_of v.items)))
group_count k v is = rw (is, shape_of-Group v) refl

two_more : (n : ℕ) → suc (suc n) ≡ n + 2
two_more n = omega arith

three_more : (n : ℕ) → suc (suc (suc n)) ≡ n + 3
three_more n = omega arith

list_size : (f : Field) → length (said_of (nodes_at (shape.list f))) ≡ length (said_of (nodes_at (shape_in f))) + 2
list_size (field own b s) = rw (append-nil (said_of (nodes_at s) ++ []), append-nil (said_of (nodes_at s))) (two_more (length (said_of (nodes_at s))))

map_size : (f : Field) → length (said_of (nodes_at (map_of f))) ≡ length (said_of (nodes_at (shape_in f))) + 3
map_size (field own b s) = rw (append-nil (said_of (nodes_at s) ++ []), append-nil (said_of (nodes_at s))) (three_more (length (said_of (nodes_at s))))

kind_in : (n : Node) → shape_in (field_of n) ≡ shape_of n.kind
kind_in n = ap shape_in (field_of-is n)

pub list_count : (k : NodeKind) (b : Box Node Global) → k ≡ node.List b → length (said_of (nodes_at (shape_of k))) ≡ length (said_of (nodes_at (shape_of b.value.kind))) + 2
list_count k b is = rw (is, shape_of-List b) (list_size (field_of b.value)) ∙ ap (λ s. length (said_of (nodes_at s)) + 2) (kind_in b.value)

pub map_count : (k : NodeKind) (b : Box Node Global) → k ≡ Map b → length (said_of (nodes_at (shape_of k))) ≡ length (said_of (nodes_at (shape_of b.value.kind))) + 3
map_count k b is = rw (is, shape_of-Map b) (map_size (field_of b.value)) ∙ ap (λ s. length (said_of (nodes_at s)) + 3) (kind_in b.value)
