-- The tree is read exactly where the elements spell one.
use Rattle.std.proofs.Common.{◌≡◌, ℕ, zero, suc, ◌+◌, ◌≤◌, ◌==◌, nat_le, max, Bool, true, false, cond, ◌&&◌, IsTrue, ℤ, pos, negsuc, Option, Some, None, option_and_then, List, [], ◌∷◌, ◌++◌, length, refl, sym, ap, subst, ◌∙◌, append_assoc, arith}
use Rattle.std.proofs.lemmas.Bool.{and_parts, and_from, eqb-true}
use Rattle.std.proofs.lemmas.List.{append-nil}
use Rattle.dk_pqmodel.specs.FileSchema.{FileNode, file_node, FileNodes, no_nodes, one_node}
use Rattle.dk_pqmodel.specs.Footer.{◌>=◌, Element, count_of, flat, flat_of, are_new, is_sound, are_sound, levels_in, levels_of, most_file_levels, IsTree}
use Rattle.dk_pqmeta.specs.Trees.{repetition_at, each_node, if_new, group_by, node_at, if_all, tree_of}
use Rattle.dk_pqmeta.specs.View.{nodes_of_list}

-- the nodes as a list
abbrev list_of_nodes : FileNodes → List FileNode
list_of_nodes no_nodes = []
list_of_nodes (one_node n ns) = n ∷ list_of_nodes ns

list_again : (ns : FileNodes) → nodes_of_list (list_of_nodes ns) ≡ ns
list_again no_nodes = refl
list_again (one_node n ns) = ap (one_node n) (list_again ns)

below_first : (a b n : ℕ) → max a b ≤ n → a ≤ n
below_first a b n h = omega arith

below_second : (a b n : ℕ) → max a b ≤ n → b ≤ n
below_second a b n h = omega arith

both_below : (a b n : ℕ) → a ≤ n → b ≤ n → max a b ≤ n
both_below a b n h k = omega arith

next_count : (m n : ℕ) → m ≡ n → suc m ≡ suc n
next_count m n e = ap suc e

one_more : (m n : ℕ) → m ≤ n → 1 + m ≤ suc n
one_more m n h = omega arith

-- ---- what is spelled is read

mutual
  node_given : (levels : ℕ) (n : FileNode) (rest : List Element) → IsTrue (is_sound n) → levels_in n ≤ levels → node_at levels (flat n ++ rest) ≡ Some (n, rest)
  node_given zero (file_node name repetition physical children) rest sound few = absurd (omega arith)
  node_given (suc levels) (file_node name repetition physical children) rest sound few =
      let known = and_parts (nat_le repetition 2 && are_new [] children) (are_sound children) sound in
      let inner = and_parts (nat_le repetition 2) (are_new [] children) known.0 in
      rw (inner.0, each_given levels children rest known.1 (omega arith), list_again children, inner.1) refl

  each_given : (levels : ℕ) (ns : FileNodes) (rest : List Element) → IsTrue (are_sound ns) → levels_of ns ≤ levels → each_node (node_at levels) (count_of ns) (flat_of ns ++ rest) ≡ Some (list_of_nodes ns, rest)
  each_given levels no_nodes rest sound few = refl
  each_given levels (one_node n ns) rest sound few =
      let known = and_parts (is_sound n) (are_sound ns) sound in
      rw (
        append_assoc (flat n) (flat_of ns) rest,
        node_given levels n (flat_of ns ++ rest) known.0 (below_first (levels_in n) (levels_of ns) levels few),
        each_given levels ns rest known.1 (below_second (levels_in n) (levels_of ns) levels few),
      )
      refl

group_given : (levels : ℕ) (ns : FileNodes) (rest : List Element) → IsTrue (are_new [] ns) → IsTrue (are_sound ns) → levels_of ns ≤ levels → group_by (node_at levels) (count_of ns) (flat_of ns ++ rest) ≡ Some (ns, rest)
group_given levels ns rest new sound few = rw (each_given levels ns rest sound few, list_again ns, new) refl

pub tree_only : (es : List Element) (fields : FileNodes) → IsTree es fields → tree_of es ≡ Some fields
tree_only es fields t =
    let whole : es ≡ t.root ∷ (flat_of fields ++ []) = t.whole ∙ ap (λ more. t.root ∷ more) (sym (append-nil (flat_of fields))) in
    rw (whole, t.count, group_given most_file_levels fields [] t.distinct t.sound t.levels) refl

-- ---- what is read is spelled

pub none_is_not_some : {A : Type 0} (x : A) → None ≡ Some x → ⊥
none_is_not_some x h = cc

pub some_is : {A : Type 0} (x y : A) → Some x ≡ Some y → x ≡ y
some_is x y h = cc

pub some_bound : {A B : Type 0} (o : Option A) (f : A → Option B) (y : B) → option_and_then f o ≡ Some y → (x : A) × ((o ≡ Some x) × (f x ≡ Some y))
some_bound None f y h = absurd (none_is_not_some y h)
some_bound (Some x) f y h = (x, (refl, h))

when_is : {A : Type 0} (b : Bool) (x y : A) → cond b (Some x) None ≡ Some y → (b ≡ true) × (x ≡ y)
when_is true x y h = (refl, some_is x y h)
when_is false x y h = absurd (none_is_not_some y h)

repetition_is : (number : Option ℤ) (r : ℕ) → (number >= repetition_at) ≡ Some r → (number ≡ Some (pos r)) × (nat_le r 2 ≡ true)
repetition_is None r h = absurd (none_is_not_some r h)
repetition_is (Some (pos n)) r h = let c = when_is (nat_le n 2) n r h in (ap (λ k. Some (pos k)) c.1, subst (λ k. nat_le k 2 ≡ true) c.1 c.0)
repetition_is (Some (negsuc n)) r h = absurd (none_is_not_some r h)

element_is : (e : Element) (r count : ℕ) → e.repetition ≡ Some (pos r) → e.children ≡ count → e ≡ record { name = e.name; repetition = Some (pos r); physical = e.physical; children = count }
element_is e r count p q = ap (λ x. record e { repetition = x }) p ∙ ap (λ k. record { name = e.name; repetition = Some (pos r); physical = e.physical; children = k }) q

abbrev NodeIs : ℕ → List Element → FileNode × List Element → Type 0
NodeIs levels es y = (es ≡ flat y.0 ++ y.1) × IsTrue (is_sound y.0) × (levels_in y.0 ≤ levels)

abbrev EachIs : ℕ → ℕ → List Element → FileNodes × List Element → Type 0
EachIs levels count es y = (es ≡ flat_of y.0 ++ y.1) × (count ≡ count_of y.0) × IsTrue (are_sound y.0) × (levels_of y.0 ≤ levels)

abbrev as_nodes : List FileNode × List Element → FileNodes × List Element
as_nodes x = (nodes_of_list x.0, x.1)

module _ (levels : ℕ) (by : (es : List Element) (y : FileNode × List Element) → node_at levels es ≡ Some y → NodeIs levels es y) where
  each_found : (count : ℕ) (es : List Element) (y : List FileNode × List Element) → each_node (node_at levels) count es ≡ Some y → EachIs levels count es (as_nodes y)
  each_found zero es y h = subst (λ z. EachIs levels zero es (as_nodes z)) (some_is ([], es) y h) (refl, refl, refl, none_below levels) where
    none_below : (n : ℕ) → 0 ≤ n
    none_below n = omega arith
  each_found (suc count) es y h =
      let x = some_bound (node_at levels es) (λ x. each_node (node_at levels) count x.1 >= λ more. Some (x.0 ∷ more.0, more.1)) y h in
      let z = some_bound (each_node (node_at levels) count x.0.1) (λ more. Some (x.0.0 ∷ more.0, more.1)) y x.1.1 in
      let first = by es x.0 x.1.0 in
      let others = each_found count x.0.1 z.0 z.1.0 in
      subst (λ z. EachIs levels (suc count) es (as_nodes z)) (some_is (x.0.0 ∷ z.0.0, z.0.1) y z.1.1) (
        first.0 ∙ ap (λ more. flat x.0.0 ++ more) others.0 ∙ sym (append_assoc (flat x.0.0) (flat_of (nodes_of_list z.0.0)) z.0.1),
        next_count count (count_of (nodes_of_list z.0.0)) others.1,
        and_from (is_sound x.0.0) (are_sound (nodes_of_list z.0.0)) first.1 others.2,
        both_below (levels_in x.0.0) (levels_of (nodes_of_list z.0.0)) levels first.2 others.3,
      )

  group_found : (count : ℕ) (es : List Element) (y : FileNodes × List Element) → group_by (node_at levels) count es ≡ Some y → EachIs levels count es y × (are_new [] y.0 ≡ true)
  group_found count es y h =
      let x = some_bound (each_node (node_at levels) count es) if_new y h in
      let c = when_is (are_new [] (nodes_of_list x.0.0)) (as_nodes x.0) y x.1.1 in
      (subst (EachIs levels count es) c.1 (each_found count es x.0 x.1.0), subst (λ (z : FileNodes × List Element). are_new [] z.0 ≡ true) c.1 c.0)

node_found : (levels : ℕ) (es : List Element) (y : FileNode × List Element) → node_at levels es ≡ Some y → NodeIs levels es y
node_found zero es y h = absurd (none_is_not_some y h)
node_found (suc levels) [] y h = absurd (none_is_not_some y h)
node_found (suc levels) (e ∷ es) y h =
    let r = some_bound (e.repetition >= repetition_at) (λ repetition. group_by (node_at levels) e.children es >= λ x. Some (file_node e.name repetition e.physical x.0, x.1)) y h in
    let g = some_bound (group_by (node_at levels) e.children es) (λ x. Some (file_node e.name r.0 e.physical x.0, x.1)) y r.1.1 in
    let q = group_found levels (node_found levels) e.children es g.0 g.1.0 in
    let rep = repetition_is e.repetition r.0 r.1.0 in
    subst (NodeIs (suc levels) (e ∷ es)) (some_is (file_node e.name r.0 e.physical g.0.0, g.0.1) y g.1.1) (
      ap (λ x. x ∷ es) (element_is e r.0 (count_of g.0.0) rep.0 q.0.1) ∙ ap (λ more. record { name = e.name; repetition = Some (pos r.0); physical = e.physical; children = count_of g.0.0 } ∷ more) q.0.0,
      and_from (nat_le r.0 2 && are_new [] g.0.0) (are_sound g.0.0) (and_from (nat_le r.0 2) (are_new [] g.0.0) rep.1 q.1) q.0.2,
      one_more (levels_of g.0.0) levels q.0.3,
    )

nothing_left : (es : List Element) → (length es == 0) ≡ true → es ≡ []
nothing_left [] h = refl
nothing_left (e ∷ es) h = let none : length (e ∷ es) ≡ 0 = eqb-true (length (e ∷ es)) 0 h in absurd (omega arith)

pub tree_found : (es : List Element) (fields : FileNodes) → tree_of es ≡ Some fields → IsTree es fields
tree_found [] fields h = absurd (none_is_not_some fields h)
tree_found (root ∷ es) fields h =
    let x = some_bound (group_by (node_at most_file_levels) root.children es) if_all fields h in
    let c = when_is (length x.0.1 == 0) x.0.0 fields x.1.1 in
    let q = group_found most_file_levels (node_found most_file_levels) root.children es x.0 x.1.0 in
    subst (IsTree (root ∷ es)) c.1 (record {
      root = root;
      whole = ap (λ more. root ∷ more) (q.0.0 ∙ ap (λ more. flat_of x.0.0 ++ more) (nothing_left x.0.1 c.0) ∙ append-nil (flat_of x.0.0));
      count = q.0.1;
      distinct = q.1;
      sound = q.0.2;
      levels = q.0.3;
    })
