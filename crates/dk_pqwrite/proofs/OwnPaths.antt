-- No two columns of a schema have one path.
use Rattle.std.proofs.Common.{◌≡◌, ℕ, Bool, true, false, not, ◌&&◌, List, [], ◌∷◌, ◌++◌, map, codes, Some, refl, sym, ap, subst, ap₂, ◌∙◌, ◌+◌, append_assoc}
use Rattle.std.specs.Str.{bytes_eq}
use Rattle.std.proofs.lemmas.List.{append-nil, map-append}
use Rattle.std.proofs.lemmas.Slice.Eq.{bytes_eq-Decides, slice_eq-Decides}
use Rattle.std.proofs.lemmas.Bool.{and_parts, and_from, or_from, or_parts, false≢true}
use Rattle.dk_pqmodel.specs.Shape.{Shape, leaf, map_of, Field, field, Fields, no_fields, one_field, field_name}
use Rattle.dk_pqmodel.specs.Shape as shape
use Rattle.dk_pqmodel.specs.Schema.{has_fields, is_named, are_distinct, is_sound_shape, is_sound, are_sound, IsSchema}
use Rattle.dk_pqmodel.specs.Projection.{Path, paths_of, paths_of_all}
use Rattle.dk_pqmodel.specs.Footer.{Chunk, is_path, has_path, is_new_each, if_distinct}
use Rattle.dk_pqmodel.specs.Projection.{Plan, missing, value, members, elements, entries, Plans, no_plans, one_plan}
use Rattle.dk_pqmodel.specs.FileMeans.{one_if, columns_in, columns_of}
use Rattle.dk_pqwrite.specs.OverItself.{chunk_path, column_path, own_plan_at, own_plan_in, own_plan_named, own_plans}
use Rattle.dk_pqwrite.proofs.Names.{Each, each_append, each_map, named_apart, not_true}

-- the path goes on from the prefix
abbrev Under : Path → Path → Type 0
Under prefix path = (more : Path) × (path ≡ prefix ++ more)

above : (prefix more path : Path) → Under (prefix ++ more) path → Under prefix path
above prefix more path u = (more ++ u.0, u.1 ∙ append_assoc prefix more u.0)

mutual
  under_at : (s : Shape) (b : Bool) (path : Path) → Each (Under path) (paths_of (own_plan_at s b path))
  under_at (leaf l) b path = (([], sym (append-nil path)), tt)
  under_at (shape.group fs) b path = under_each fs path
  under_at (shape.list f) b path = each_map (above path (codes "list" ∷ codes "element" ∷ [])) (paths_of (own_plan_in f (path ++ codes "list" ∷ codes "element" ∷ []))) (under_in f (path ++ codes "list" ∷ codes "element" ∷ []))
  under_at (map_of f) b path = (
    (codes "key_value" ∷ codes "key" ∷ [], refl),
    each_map (above path (codes "key_value" ∷ codes "value" ∷ [])) (paths_of (own_plan_in f (path ++ codes "key_value" ∷ codes "value" ∷ []))) (under_in f (path ++ codes "key_value" ∷ codes "value" ∷ [])),
  )

  under_in : (f : Field) (path : Path) → Each (Under path) (paths_of (own_plan_in f path))
  under_in (field name b s) path = under_at s b path

  under_named : (f : Field) (path : Path) → Each (Under (path ++ field_name f ∷ [])) (paths_of (own_plan_named f path))
  under_named (field name b s) path = under_at s b (path ++ name ∷ [])

  under_each : (fs : Fields) (path : Path) → Each (Under path) (paths_of_all (own_plans fs path))
  under_each no_fields path = tt
  under_each (one_field f fs) path =
      each_append (Under path) (paths_of (own_plan_named f path)) (paths_of_all (own_plans fs path)) (each_map (above path (field_name f ∷ [])) (paths_of (own_plan_named f path)) (under_named f path)) (under_each fs path)

-- the path goes on by another name
abbrev Elsewhere : Path → List ℕ → Path → Type 0
Elsewhere prefix name path = (other : List ℕ) × ((name ≡ other → ⊥) × Under (prefix ++ other ∷ []) path)

elsewhere : (fs : Fields) (path : Path) (name : List ℕ) → is_named name fs ≡ false → Each (Elsewhere path name) (paths_of_all (own_plans fs path))
elsewhere no_fields path name h = tt
elsewhere (one_field f fs) path name h =
    let apart = named_apart name f fs h in
    each_append (Elsewhere path name) (paths_of (own_plan_named f path)) (paths_of_all (own_plans fs path))
    (each_map (λ p u. (field_name f, (apart.0, u))) (paths_of (own_plan_named f path)) (under_named f path)) (elsewhere fs path name apart.1)

abbrev first_or : List ℕ → Path → List ℕ
first_or name [] = name
first_or name (n ∷ ns) = n

abbrev others : Path → Path
others [] = []
others (n ∷ ns) = ns

cancel : (path a b : Path) → path ++ a ≡ path ++ b → a ≡ b
cancel [] a b e = e
cancel (n ∷ ns) a b e = cancel ns a b (ap others e)

apart : (path : Path) (name : List ℕ) (p q : Path) → Under (path ++ name ∷ []) p → Elsewhere path name q → p ≡ q → ⊥
apart path name p q u e same =
    e.1.0 (ap (first_or []) (cancel path (name ∷ u.0) (e.0 ∷ e.1.1.0)
    (sym (append_assoc path (name ∷ []) u.0) ∙ sym u.1 ∙ same ∙ e.1.1.1 ∙ append_assoc path (e.0 ∷ []) e.1.1.0)))

-- no path twice
abbrev pub Distinct : List Path → Type 0
Distinct [] = Unit {0}
Distinct (p ∷ ps) = Each (λ q. p ≡ q → ⊥) ps × Distinct ps

distinct_append : (xs ys : List Path) → Distinct xs → Distinct ys → Each (λ p. Each (λ q. p ≡ q → ⊥) ys) xs → Distinct (xs ++ ys)
distinct_append [] ys d e h = e
distinct_append (x ∷ xs) ys d e h = (each_append (λ q. x ≡ q → ⊥) xs ys d.0 h.0, distinct_append xs ys d.1 e h.1)

-- a key has another path than all of the value's columns
key_apart : (path q : Path) → Under (path ++ codes "key_value" ∷ codes "value" ∷ []) q → path ++ codes "key_value" ∷ codes "key" ∷ [] ≡ q → ⊥
key_apart path q u same =
    let inner = cancel path (codes "key_value" ∷ codes "key" ∷ []) (codes "key_value" ∷ codes "value" ∷ u.0) (same ∙ u.1 ∙ append_assoc path (codes "key_value" ∷ codes "value" ∷ []) u.0) in
    false≢true (sym (ap (λ p. bytes_eq (codes "key") (first_or [] (others p))) inner))

mutual
  distinct_at : (s : Shape) (b : Bool) (path : Path) → is_sound_shape s ≡ true → Distinct (paths_of (own_plan_at s b path))
  distinct_at (leaf l) b path h = (tt, tt)
  distinct_at (shape.group fs) b path h =
      let p = and_parts (has_fields fs && are_distinct fs) (are_sound fs) h in
      let q = and_parts (has_fields fs) (are_distinct fs) p.0 in
      distinct_each fs path p.1 q.1
  distinct_at (shape.list f) b path h = distinct_in f (path ++ codes "list" ∷ codes "element" ∷ []) h
  distinct_at (map_of f) b path h =
      let inner = path ++ codes "key_value" ∷ codes "value" ∷ [] in
      (each_map (λ q u. key_apart path q u) (paths_of (own_plan_in f inner)) (under_in f inner), distinct_in f inner h)

  distinct_in : (f : Field) (path : Path) → is_sound f ≡ true → Distinct (paths_of (own_plan_in f path))
  distinct_in (field name b s) path h = distinct_at s b path h

  distinct_named : (f : Field) (path : Path) → is_sound f ≡ true → Distinct (paths_of (own_plan_named f path))
  distinct_named (field name b s) path h = distinct_at s b (path ++ name ∷ []) h

  distinct_each : (fs : Fields) (path : Path) → are_sound fs ≡ true → are_distinct fs ≡ true → Distinct (paths_of_all (own_plans fs path))
  distinct_each no_fields path h d = tt
  distinct_each (one_field f fs) path h d =
      let p = and_parts (is_sound f) (are_sound fs) h in
      let q = and_parts (not (is_named (field_name f) fs)) (are_distinct fs) d in
      let far = elsewhere fs path (field_name f) (not_true (is_named (field_name f) fs) q.0) in
      distinct_append (paths_of (own_plan_named f path)) (paths_of_all (own_plans fs path)) (distinct_named f path p.0) (distinct_each fs path p.1 q.1)
      (each_map (λ p u. each_map (λ r e. apart path (field_name f) p r u e) (paths_of_all (own_plans fs path)) far) (paths_of (own_plan_named f path)) (under_named f path))

pub paths_distinct : (fs : Fields) → IsSchema fs → Distinct (paths_of_all (own_plans fs []))
paths_distinct fs is = distinct_each fs [] is.sound is.distinct

-- ---- as a footer asks for it

paths_differ : (p q : Path) → (p ≡ q → ⊥) → is_path p q ≡ false
paths_differ p q h = by (is_path p q) refl
  where
    by : (b : Bool) → is_path p q ≡ b → b ≡ false
    by false e = refl
    by true e = absurd (h ((slice_eq-Decides bytes_eq-Decides p q true (sym e)).0 refl))

has_path_behind : (path : Path) (c : Path × Chunk) (before : List (Path × Chunk)) → has_path path before ≡ false → is_path path c.0 ≡ false → has_path path (before ++ c ∷ []) ≡ false
has_path_behind path c [] h k = or_from (is_path path c.0) false k refl
has_path_behind path c (x ∷ xs) h k =
    let p = or_parts (is_path path x.0) (has_path path xs) h in or_from (is_path path x.0) (has_path path (xs ++ c ∷ [])) p.0 (has_path_behind path c xs p.1 k)

both_each : {A : Type 0} {P Q R : A → Type 0} → ((x : A) → P x → Q x → R x) → (xs : List A) → Each P xs → Each Q xs → Each R xs
both_each f [] h k = tt
both_each f (x ∷ xs) h k = (f x h.0 k.0, both_each f xs h.1 k.1)

new_each : (before columns : List (Path × Chunk)) → Distinct (map chunk_path columns) → Each (λ p. has_path p before ≡ false) (map chunk_path columns) → is_new_each before columns ≡ true
new_each before [] d h = refl
new_each before (c ∷ cs) d h =
    and_from (not (has_path c.0 before)) (is_new_each (before ++ c ∷ []) cs) (ap not h.0)
    (new_each (before ++ c ∷ []) cs d.1 (both_each (λ p new other. has_path_behind p c before new (paths_differ p c.0 (λ e. other (sym e)))) (map chunk_path cs) h.1 d.0))

none_before : (ps : List Path) → Each (λ p. has_path p [] ≡ false) ps
none_before [] = tt
none_before (p ∷ ps) = (refl, none_before ps)

pub columns_distinct : (fs : Fields) (columns : List (Path × Chunk)) → IsSchema fs → map chunk_path columns ≡ paths_of_all (own_plans fs []) → if_distinct columns ≡ Some columns
columns_distinct fs columns is e = rw (new_each [] columns (subst Distinct (sym e) (paths_distinct fs is)) (none_before (map chunk_path columns))) refl

-- the columns of plans have their paths
mutual
  paths_in_plan : (p : Plan) (r d : ℕ) → map column_path (columns_in p r d) ≡ paths_of p
  paths_in_plan missing r d = refl
  paths_in_plan (value b kind path) r d = refl
  paths_in_plan (members b ps) r d = paths_in_plans ps r (d + one_if b)
  paths_in_plan (elements b p) r d = paths_in_plan p (r + 1) (d + one_if b + 1)
  paths_in_plan (entries b k path p) r d = ap (λ ps. path ∷ ps) (paths_in_plan p (r + 1) (d + one_if b + 1))

  pub paths_in_plans : (ps : Plans) (r d : ℕ) → map column_path (columns_of ps r d) ≡ paths_of_all ps
  paths_in_plans no_plans r d = refl
  paths_in_plans (one_plan p ps) r d = map-append column_path (columns_in p r d) (columns_of ps r d) ∙ ap₂ ◌++◌ (paths_in_plan p r d) (paths_in_plans ps r d)

pub chunks_distinct : (fs : Fields) (chunks : List (Path × Chunk)) → IsSchema fs → map chunk_path chunks ≡ map column_path (columns_of (own_plans fs []) 0 0) → if_distinct chunks ≡ Some chunks
chunks_distinct fs chunks is e = columns_distinct fs chunks is (e ∙ paths_in_plans (own_plans fs []) 0 0)
