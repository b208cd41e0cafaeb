-- A tree with text keys, and the finite map that it stands for.
use Rattle.std.proofs.Common.{◌≡◌, ℕ, List, [], ◌∷◌, Option, Some, None, String, string_bytes, string_cmp, BTreeMap, nat_cmp, is_eq, cond, T, map, Less, is_lt, Bool, true, false, ◌&&◌, refl, sym, ap, subst, ◌∙◌, length, suc}
use Rattle.std.proofs.lemmas.Cmp.{nat_list_cmp_total}
use Rattle.std.proofs.lemmas.Map.Text.{is_eq-slice_cmp, btree_map_updates_text}
use Rattle.std.specs.Cmp.Lexicographic.{slice_cmp}
use Rattle.std.specs.Cmp.{eq_by_cmp_equiv}
use Rattle.std.specs.Map.{lookup}
use Rattle.std.specs.BTreeMap.{is_at, UpdatesBy}
use Rattle.std.specs.List.{AllByRecursion}
use Rattle.std.specs.List.Sorted.{IsStrictlySortedBy}
use Rattle.std.specs.FinMap.Entries.{below_all}
use Rattle.std.specs.FinMap.{entries, from_sorted, get-from_sorted, entries-from_sorted, is_sorted, find, get, insert, remove, from_entries, get-from_entries, get-insert, get-remove, same_map, slice_cmp-IsAntisymmetric, nat_cmp-IsAntisymmetric, IsAntisymmetric, len, len-entries}
use Rattle.dk_model.specs.Texts.{texts}

abbrev pub text_order : IsAntisymmetric (slice_cmp nat_cmp)
text_order = slice_cmp-IsAntisymmetric nat_cmp-IsAntisymmetric

-- what the entries have at a text
abbrev pub at_text : {Y X : Type 0} → List (String Y × X) → List ℕ → Option X
at_text es q = lookup (is_at (λ k. slice_cmp nat_cmp q (string_bytes k))) es

find_text : {Y X : Type 0} (es : List (String Y × X)) (q : List ℕ) → find (slice_cmp nat_cmp) q (texts es) ≡ at_text es q
find_text [] q = refl
find_text (e ∷ es) q = ap (cond (is_eq (slice_cmp nat_cmp q (string_bytes e.0))) (Some e.1)) (find_text es q)

pub get_text : {Y X : Type 0} (es : List (String Y × X)) (q : List ℕ) → get (from_entries {R = slice_cmp nat_cmp} (texts es)) q ≡ at_text es q
get_text es q = get-from_entries nat_list_cmp_total (texts es) q ∙ find_text es q

pub inserted : {Y X : Type 0} (m n : BTreeMap (String Y) X) (k : List ℕ) (v : X) → UpdatesBy string_cmp (λ x. slice_cmp nat_cmp k (string_bytes x)) m n (Some v)
    → from_entries {R = slice_cmp nat_cmp} (texts n.entries) ≡ insert (from_entries (texts m.entries)) k v
inserted m n k v updates = same_map nat_list_cmp_total text_order _ _ (λ q.
    get_text n.entries q ∙ btree_map_updates_text k m n (Some v) updates q
    ∙ ap (λ b. cond b (Some v) (at_text m.entries q)) (sym (is_eq-slice_cmp k q) ∙ (eq_by_cmp_equiv nat_list_cmp_total).symm k q)
    ∙ sym (get-insert nat_list_cmp_total (from_entries (texts m.entries)) k v q ∙ ap (cond (is_eq (slice_cmp nat_cmp q k)) (Some v)) (get_text m.entries q)))

pub removed : {Y X : Type 0} (m n : BTreeMap (String Y) X) (k : List ℕ) → UpdatesBy string_cmp (λ x. slice_cmp nat_cmp k (string_bytes x)) m n None
    → from_entries {R = slice_cmp nat_cmp} (texts n.entries) ≡ remove (from_entries (texts m.entries)) k
removed m n k updates = same_map nat_list_cmp_total text_order _ _ (λ q.
    get_text n.entries q ∙ btree_map_updates_text k m n None updates q
    ∙ ap (λ b. cond b None (at_text m.entries q)) (sym (is_eq-slice_cmp k q) ∙ (eq_by_cmp_equiv nat_list_cmp_total).symm k q)
    ∙ sym (get-remove nat_list_cmp_total (from_entries (texts m.entries)) k q ∙ ap (cond (is_eq (slice_cmp nat_cmp q k)) None) (get_text m.entries q)))

both : (a b : Bool) → T a → T b → T (a && b)
both true b p q = q
both false b p q = p

below_texts : {Y X : Type 0} (k : String Y) (es : List (String Y × X)) → AllByRecursion (λ y. string_cmp k y ≡ Less) (map (λ e. e.0) es) → T (below_all (slice_cmp nat_cmp) (string_bytes k) (texts es))
below_texts k [] h = tt
below_texts k (e ∷ es) h = both _ _ (subst (λ r. T (is_lt r)) (sym h.0) tt) (below_texts k es h.1)

sorted_texts : {Y X : Type 0} (es : List (String Y × X)) → IsStrictlySortedBy string_cmp (map (λ e. e.0) es) → T (is_sorted (slice_cmp nat_cmp) (texts es))
unfolding IsStrictlySortedBy
sorted_texts [] h = tt
sorted_texts (e ∷ es) h = both _ _ (below_texts e.0 es h.0) (sorted_texts es h.1)

-- the entries of a tree are those of its map, in order
pub entries_in_order : {Y X : Type 0} (es : List (String Y × X)) → IsStrictlySortedBy string_cmp (map (λ e. e.0) es) → entries (from_entries {R = slice_cmp nat_cmp} (texts es)) ≡ texts es
entries_in_order es h =
    let sorted = sorted_texts es h in
    ap entries (same_map nat_list_cmp_total text_order _ (from_sorted (texts es)) (λ q.
    get-from_entries nat_list_cmp_total (texts es) q ∙ sym (get-from_sorted (slice_cmp nat_cmp) (texts es) q sorted)))
    ∙ entries-from_sorted (slice_cmp nat_cmp) (texts es) sorted

length-texts : {Y X : Type 0} (es : List (String Y × X)) → length (texts es) ≡ length es
length-texts [] = refl
length-texts (e ∷ es) = ap suc (length-texts es)

-- a tree has as many entries as its map
pub same_count : {Y X : Type 0} (es : List (String Y × X)) → IsStrictlySortedBy string_cmp (map (λ e. e.0) es) → len (from_entries {R = slice_cmp nat_cmp} (texts es)) ≡ length es
same_count es h = len-entries (from_entries (texts es)) ∙ ap length (entries_in_order es h) ∙ length-texts es
