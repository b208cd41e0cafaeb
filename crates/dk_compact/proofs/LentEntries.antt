-- What a tree of borrowed texts and actions has, behind its references.
use Rattle.std.proofs.Common.{◌≡◌, ℕ, List, [], ◌∷◌, refl, ap, nat_cmp}
use Rattle.std.specs.Borrow.{Bor}
use Rattle.std.specs.declared.cmp.Ordering.{Ordering}
use Rattle.std.specs.declared.cmp.Ordering.TheVariants.{Less, Equal, Greater}
use Rattle.std.specs.Ordering.{match_ordering}
use Rattle.std.specs.Cmp.Lexicographic.{slice_cmp}
use Rattle.std.specs.BTreeMap.{insert_entry}
use Rattle.std.specs.FinMap.Entries.{by_order}
use Rattle.dk_model.specs.declared.action.Action.{Action}
use Rattle.dk_compact.specs.Keyed.{put_text, lent}

abbrev pub name_order : Bor (List ℕ) → Bor (List ℕ) → Ordering
name_order x y = slice_cmp nat_cmp x.now y.now

pub lent_put : (es : List (Bor (List ℕ) × Bor Action)) (k : Bor (List ℕ)) (v : Bor Action) → lent (insert_entry name_order es k v) ≡ put_text (lent es) k.now v.now
lent_put [] k v = refl
lent_put (e ∷ es) k v = by (name_order k e.0) (lent_put es k v)
  where
    by : (r : Ordering) → lent (insert_entry name_order es k v) ≡ put_text (lent es) k.now v.now
        → lent (match_ordering r ((k, v) ∷ e ∷ es) ((e.0, v) ∷ es) (e ∷ insert_entry name_order es k v))
        ≡ by_order r ((k.now, v.now) ∷ (e.0.now, e.1.now) ∷ lent es) ((e.0.now, v.now) ∷ lent es) ((e.0.now, e.1.now) ∷ put_text (lent es) k.now v.now)
    by Less later = refl
    by Equal later = refl
    by Greater later = ap (λ l. (e.0.now, e.1.now) ∷ l) later
