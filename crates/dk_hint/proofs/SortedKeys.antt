-- A set of texts has them sorted by their bytes.
use Rattle.std.proofs.Common.{◌≡◌, List, [], ◌∷◌, String, string_bytes, string_cmp, refl, ap}
use Rattle.std.specs.declared.cmp.Ordering.{Ordering}
use Rattle.std.specs.declared.cmp.Ordering.TheVariants.{Less, Equal, Greater}
use Rattle.std.specs.Ordering.{match_ordering}
use Rattle.std.specs.BTreeSet.{insert_key}
use Rattle.dk_hint.specs.Canonical.{put_sorted}
use Rattle.dk_hint.specs.Sorted.{key_texts}

pub put_key : {Y : Type 0} (ks : List (String Y)) (k : String Y) → key_texts (insert_key string_cmp ks k) ≡ put_sorted (string_bytes k) (key_texts ks)
put_key [] k = refl
put_key (x ∷ ks) k = by (string_cmp k x) (put_key ks k)
  where
    by : (r : Ordering) → key_texts (insert_key string_cmp ks k) ≡ put_sorted (string_bytes k) (key_texts ks)
        → key_texts (match_ordering r (k ∷ x ∷ ks) (x ∷ ks) (x ∷ insert_key string_cmp ks k))
        ≡ match_ordering r (string_bytes k ∷ string_bytes x ∷ key_texts ks) (string_bytes x ∷ key_texts ks) (string_bytes x ∷ put_sorted (string_bytes k) (key_texts ks))
    by Less later = refl
    by Equal later = refl
    by Greater later = ap (λ l. string_bytes x ∷ l) later
