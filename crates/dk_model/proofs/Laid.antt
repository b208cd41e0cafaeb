-- The entries of a map, laid one after another into an empty one, make that map.
use Rattle.std.proofs.Common.{◌≡◌, ℕ, List, [], ◌∷◌, Option, Some, None, nat_cmp, is_eq, cond, T, Less, Equal, Greater, is_lt, Bool, true, false, ◌&&◌, refl, sym, ap, subst, ◌∙◌}
use Rattle.std.proofs.lemmas.Cmp.{nat_list_cmp_total}
use Rattle.std.specs.declared.cmp.Ordering.{Ordering}
use Rattle.std.specs.Cmp.Lexicographic.{slice_cmp}
use Rattle.std.specs.FinMap.Entries.{below_all}
use Rattle.std.specs.FinMap.{entries, entries_sorted, is_sorted, find, get, get-empty, get-entries, get-insert, insert, empty, same_map}
use Rattle.dk_model.specs.Texts.{ByText}
use Rattle.dk_model.proofs.TextMaps.{text_order}

abbrev order : List ℕ → List ℕ → Ordering
order = slice_cmp nat_cmp

-- a map, and then these entries
unfoldable pub laid : {X : Type 0} → ByText X → List (List ℕ × X) → ByText X
laid m [] = m
laid m (e ∷ es) = laid (insert m e.0 e.1) es

split_and : (a b : Bool) → T (a && b) → T a × T b
split_and true b h = (tt, h)
split_and false b h = absurd h

none_below : {X : Type 0} (x : List ℕ) (es : List (List ℕ × X)) → T (below_all order x es) → find order x es ≡ None
none_below x [] h = refl
none_below x (f ∷ fs) h = by (order x f.0) h (none_below x fs)
  where
    by : (o : Ordering) → T (is_lt o && below_all order x fs) → (T (below_all order x fs) → find order x fs ≡ None) → cond (is_eq o) (Some f.1) (find order x fs) ≡ None
    by Less h later = later h
    by Equal h later = absurd h
    by Greater h later = absurd h

or_in : {X : Type 0} → Option X → Option X → Option X
or_in (Some x) o = Some x
or_in None o = o

get_laid : {X : Type 0} (m : ByText X) (es : List (List ℕ × X)) (q : List ℕ) → T (is_sorted order es) → get (laid m es) q ≡ or_in (find order q es) (get m q)
unfolding or_in laid
get_laid m [] q h = refl
get_laid m (e ∷ es) q h =
    let two : T (below_all order e.0 es) × T (is_sorted order es) = split_and (below_all order e.0 es) (is_sorted order es) h in
    get_laid (insert m e.0 e.1) es q two.1 ∙ ap (or_in (find order q es)) (get-insert nat_list_cmp_total m e.0 e.1 q)
    ∙ by (order q e.0) refl two.0
  where
    by : (o : Ordering) → order q e.0 ≡ o → T (below_all order e.0 es)
        → or_in (find order q es) (cond (is_eq o) (Some e.1) (get m q)) ≡ or_in (cond (is_eq o) (Some e.1) (find order q es)) (get m q)
    by Less is below = refl
    by Greater is below = refl
    by Equal is below =
        let same : q ≡ e.0 = text_order q e.0 is in
        let none : find order q es ≡ None = subst (λ (x : List ℕ). find order x es ≡ None) (sym same) (none_below e.0 es below) in
        ap (λ (o : Option _). or_in o (Some e.1)) none

or_none : {X : Type 0} (o : Option X) → or_in o None ≡ o
unfolding or_in
or_none None = refl
or_none (Some x) = refl

pub laid_entries : {X : Type 0} (m : ByText X) → laid empty (entries m) ≡ m
laid_entries m = same_map nat_list_cmp_total text_order (laid empty (entries m)) m (λ q.
    get_laid empty (entries m) q (entries_sorted m) ∙ ap (or_in (find order q (entries m))) (get-empty order q) ∙ or_none (find order q (entries m)) ∙ sym (get-entries m q))
