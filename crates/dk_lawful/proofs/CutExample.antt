-- What is written of tombstones on both sides of a cut.
use Rattle.std.proofs.Common.{◌≡◌, ℕ, ℤ, pos, true, false, List, [], ◌∷◌, None, codes, refl, sym, ap, ◌∙◌, arith}
use Rattle.std.specs.Prelude.{Bool, Option, cond, length}
use Rattle.std.specs.declared.cmp.Ordering.{Ordering}
use Rattle.std.specs.Ordering.{eq_by_cmp, nat_cmp}
use Rattle.std.specs.Cmp.Lexicographic.{slice_cmp, nat_list_cmp_total}
use Rattle.std.specs.FinMap.{empty, insert, entries, get, put, remove, len-entries, len-empty, get-empty, get-remove, entries-insert, same_map}
use Rattle.dk_model.specs.declared.action.AddFile.{AddFile}
use Rattle.dk_model.proofs.TextMaps.{text_order}
use Rattle.dk_lawful.specs.CutExample.{removed_twice, CutTells}

abbrev order : List ℕ → List ℕ → Ordering
order = slice_cmp nat_cmp

no_entries : {X : Type 0} (entries_of : List X) → length entries_of ≡ 0 → entries_of ≡ []
no_entries [] h = refl
no_entries (x ∷ xs) h = absurd (omega (arith, h))

none_in : (X : Type 0) → entries (empty {X = X} {R = order}) ≡ []
none_in X = no_entries (entries empty) (sym (len-entries empty) ∙ len-empty order X)

still_none : (X : Type 0) (key : List ℕ) → remove (empty {X = X} {R = order}) key ≡ empty
still_none X key = same_map nat_list_cmp_total text_order (remove empty key) empty (λ q. get-remove nat_list_cmp_total empty key q ∙ either_none (eq_by_cmp order q key) (get empty q) (get-empty order q) ∙ sym (get-empty order q))
  where
    either_none : {A : Type 0} (b : Bool) (found : Option A) → found ≡ None → cond b None found ≡ None
    either_none true found h = refl
    either_none false found h = h

files_are : entries removed_twice.files ≡ []
files_are =
    ap (λ (files : _). entries (remove files (codes "b"))) (still_none AddFile (codes "a")) ∙ ap entries (still_none AddFile (codes "b")) ∙ none_in AddFile

times_are : entries removed_twice.tombstones ≡ (codes "a", pos 5) ∷ (codes "b", pos 9) ∷ []
times_are =
    entries-insert nat_list_cmp_total (insert empty (codes "a") (pos 5)) (codes "b") (pos 9)
    ∙ ap (put order (codes "b") (pos 9)) (entries-insert nat_list_cmp_total empty (codes "a") (pos 5) ∙ ap (put order (codes "a") (pos 5)) (none_in ℤ))

pub cut_tells : CutTells
cut_tells = record {
  later_alone = rw (files_are, times_are) refl;
  all = rw (files_are, times_are) refl;
  none = rw (files_are, times_are) refl;
}
