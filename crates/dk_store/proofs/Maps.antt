-- The code's map of objects as a finite map: what it answers, what a change to it is, and its entries.
use Rattle.std.proofs.Common.{◌≡◌, ℕ, Bool, true, false, cond, bytes_eq, List, [], ◌∷◌, map, Option, Some, None, option_map, String, string_bytes, nat_cmp, is_eq, is_lt, refl, sym, ap, ap₂, ◌∙◌, ◌&&◌, T, subst, Less}
use Rattle.std.specs.declared.alloc.Global.{Global}
use Rattle.std.specs.BTreeMap as tree
use Rattle.std.specs.BTreeMap.{BTreeMap, is_at}
use Rattle.std.specs.String.{string_cmp}
use Rattle.std.specs.Map.{lookup}
use Rattle.std.specs.List.{AllByRecursion}
use Rattle.std.specs.List.Sorted.{IsStrictlySortedBy}
use Rattle.std.specs.FinMap.{FinMap, get, insert, remove, entries, find, from_sorted, get-from_entries, get-from_sorted, entries-from_sorted, get-insert, get-remove, same_map, slice_cmp-IsAntisymmetric, nat_cmp-IsAntisymmetric, is_sorted}
use Rattle.std.specs.FinMap.Entries.{below_all}
use Rattle.std.specs.Cmp.Lexicographic.{slice_cmp, nat_list_cmp_total}
use Rattle.std.proofs.lemmas.Map.Text.{btree_map_updates_text}
use Rattle.dk_store.specs.declared.objects.Object.{Object}
use Rattle.dk_store.specs.Told.{Stored}
use Rattle.dk_store.specs.Objects.{path_cmp}
use Rattle.dk_store.specs.Memory.{placed, placed_map, stored}
use Rattle.dk_store.proofs.Lookups.{same_path}

moved : (b : Bool) (x : Object) (o : Option Object) → cond b (Some (stored x)) (option_map stored o) ≡ option_map stored (cond b (Some x) o)
moved true x o = refl
moved false x o = refl

gone : (b : Bool) (o : Option Object) → cond b None (option_map stored o) ≡ option_map stored (cond b None o)
gone true o = refl
gone false o = refl

find-placed : (es : List (String Global × Object)) (q : List ℕ) → find path_cmp q (map placed es) ≡ option_map stored (lookup (is_at (λ k. slice_cmp nat_cmp q (string_bytes k))) es)
find-placed [] q = refl
find-placed (e ∷ es) q = ap (cond (is_eq (slice_cmp nat_cmp q (string_bytes e.0))) (Some (stored e.1))) (find-placed es q) ∙ moved (is_eq (slice_cmp nat_cmp q (string_bytes e.0))) e.1 _

get-placed_map : (m : BTreeMap (String Global) Object) (q : List ℕ) → get (placed_map m.entries) q ≡ option_map stored (tree.get_by_text m q)
get-placed_map m q = get-from_entries nat_list_cmp_total (map placed m.entries) q ∙ find-placed m.entries q

same_paths : (m n : FinMap path_cmp Stored) → ((q : List ℕ) → get m q ≡ get n q) → m ≡ n
same_paths m n h = same_map nat_list_cmp_total (slice_cmp-IsAntisymmetric nat_cmp-IsAntisymmetric) m n h

-- an object is put at its path
pub placed_map-insert : (bs : List ℕ) (m n : BTreeMap (String Global) Object) (x : Object) → tree.UpdatesBy string_cmp (λ k. slice_cmp nat_cmp bs (string_bytes k)) m n (Some x) → placed_map n.entries ≡ insert (placed_map m.entries) bs (stored x)
placed_map-insert bs m n x h = same_paths _ _ (λ q.
    get-placed_map n q ∙ ap (option_map stored) (btree_map_updates_text bs m n (Some x) h q)
    ∙ sym (moved (bytes_eq bs q) x (tree.get_by_text m q))
    ∙ ap₂ (λ b r. cond b (Some (stored x)) r) (sym (same_path bs q)) (sym (get-placed_map m q))
    ∙ sym (get-insert nat_list_cmp_total (placed_map m.entries) bs (stored x) q))

-- the object at a path is taken away
pub placed_map-remove : (bs : List ℕ) (m n : BTreeMap (String Global) Object) → tree.UpdatesBy string_cmp (λ k. slice_cmp nat_cmp bs (string_bytes k)) m n None → placed_map n.entries ≡ remove (placed_map m.entries) bs
placed_map-remove bs m n h = same_paths _ _ (λ q.
    get-placed_map n q ∙ ap (option_map stored) (btree_map_updates_text bs m n None h q)
    ∙ sym (gone (bytes_eq bs q) (tree.get_by_text m q))
    ∙ ap₂ (λ b r. cond b None r) (sym (same_path bs q)) (sym (get-placed_map m q))
    ∙ sym (get-remove nat_list_cmp_total (placed_map m.entries) bs q))

below : (k : String Global) (es : List (String Global × Object)) → AllByRecursion (λ y. string_cmp k y ≡ Less) (map (λ e. e.0) es) → below_all path_cmp (string_bytes k) (map placed es) ≡ true
below k [] h = refl
below k (e ∷ es) h = ap₂ (λ o b. is_lt o && b) h.0 (below k es h.1)

rising : (es : List (String Global × Object)) → IsStrictlySortedBy string_cmp (map (λ e. e.0) es) → is_sorted path_cmp (map placed es) ≡ true
unfolding IsStrictlySortedBy
rising [] h = refl
rising (e ∷ es) h = ap₂ ◌&&◌ (below e.0 es h.0) (rising es h.1)

-- entries in order are those of the finite map that they make
pub entries-placed_map : (es : List (String Global × Object)) → IsStrictlySortedBy string_cmp (map (λ e. e.0) es) → entries (placed_map es) ≡ map placed es
entries-placed_map es h =
    let t : T (is_sorted path_cmp (map placed es)) = subst T (sym (rising es h)) tt in
    let same : placed_map es ≡ from_sorted (map placed es) = same_paths _ _ (λ q. get-from_entries nat_list_cmp_total (map placed es) q ∙ sym (get-from_sorted path_cmp (map placed es) q t)) in
    ap entries same ∙ entries-from_sorted path_cmp (map placed es) t
