-- A column's pages take at most as many bytes as its triples may.
use Rattle.std.proofs.Common.{ℕ, suc, ◌+◌, ◌*◌, ◌≤◌, Bool, true, false, cond, not, Option, Some, None, List, [], ◌∷◌, length, map, arith}
use Rattle.std.specs.List.{filter}
use Rattle.std.specs.Str.{bytes_eq}
use Rattle.std.proofs.lemmas.List.Sums.{sum_by-cons}
use Rattle.dk_pqmodel.specs.Datum.{Value, chars, Triple, Column}
use Rattle.dk_pqmodel.specs.Weight.{column_bytes, text_length, value_bytes}
use Rattle.dk_pqwrite.specs.FirstUses.{first_uses}
use Rattle.dk_pqwrite.specs.PlainValues.{plain_size}
use Rattle.dk_pqwrite.specs.WrittenColumn.{values_of_column}

bytes_more : (r d : ℕ) (v : Option Value) (es : Column) → 56 * length es + plain_size (values_of_column es) ≤ column_bytes es
    → 56 * suc (length es) + plain_size (values_of_column (record { repetition = r; definition = d; value = v } ∷ es)) ≤ column_bytes (record { repetition = r; definition = d; value = v } ∷ es)
bytes_more r d None es h = omega (arith, h, sum_by-cons (λ (e : Triple). value_bytes e.value) (record { repetition = r; definition = d; value = None }) es)
bytes_more r d (Some v) es h =
    omega (arith, h, sum_by-cons (λ (e : Triple). value_bytes e.value) (record { repetition = r; definition = d; value = Some v }) es, sum_by-cons (λ x. 8 + text_length x) v (values_of_column es))

-- values and levels together
pub bytes_within : (entries : Column) → 56 * length entries + plain_size (values_of_column entries) ≤ column_bytes entries
bytes_within [] = omega arith
bytes_within (e ∷ es) = bytes_more e.repetition e.definition e.value es (bytes_within es)

cond_small : (b : Bool) (y : List ℕ) (some ys : List (List ℕ)) → plain_size (map chars some) ≤ plain_size (map chars ys) → plain_size (map chars (cond b (y ∷ some) some)) ≤ plain_size (map chars (y ∷ ys))
cond_small true y some ys h = omega (arith, h, sum_by-cons (λ v. 8 + text_length v) (chars y) (map chars some), sum_by-cons (λ v. 8 + text_length v) (chars y) (map chars ys))
cond_small false y some ys h = omega (arith, h, sum_by-cons (λ v. 8 + text_length v) (chars y) (map chars ys))

filter_small : (test : List ℕ → Bool) (ys : List (List ℕ)) → plain_size (map chars (filter test ys)) ≤ plain_size (map chars ys)
filter_small test [] = omega arith
filter_small test (y ∷ ys) = cond_small (test y) y (filter test ys) ys (filter_small test ys)

-- the distinct texts are no longer than all
pub uses_small : (texts : List (List ℕ)) → plain_size (map chars (first_uses texts)) ≤ plain_size (map chars texts)
uses_small [] = omega arith
uses_small (t ∷ ts) =
    omega (
      arith,
      uses_small ts,
      filter_small (λ other. not (bytes_eq t other)) (first_uses ts),
      sum_by-cons (λ v. 8 + text_length v) (chars t) (map chars (filter (λ other. not (bytes_eq t other)) (first_uses ts))),
      sum_by-cons (λ v. 8 + text_length v) (chars t) (map chars ts),
    )

cond_few : (b : Bool) (y : List ℕ) (some : List (List ℕ)) → length (cond b (y ∷ some) some) ≤ suc (length some)
cond_few true y some = omega arith
cond_few false y some = omega arith

filter_few : (test : List ℕ → Bool) (ys : List (List ℕ)) → length (filter test ys) ≤ length ys
filter_few test [] = omega arith
filter_few test (y ∷ ys) = omega (arith, cond_few (test y) y (filter test ys), filter_few test ys)

-- and no more
pub uses_few : (texts : List (List ℕ)) → length (first_uses texts) ≤ length texts
uses_few [] = omega arith
uses_few (t ∷ ts) = omega (arith, uses_few ts, filter_few (λ other. not (bytes_eq t other)) (first_uses ts))
