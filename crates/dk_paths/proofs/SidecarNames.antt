-- The name of the sidecar of a UUID is the name of a sidecar.
use Rattle.std.proofs.Common.{◌≡◌, ℕ, zero, suc, ◌-◌, [], ◌∷◌, length, drop, refl, ap, ◌∙◌, arith, codes, Bool, true, false, if◌then◌else◌}
use Rattle.std.specs.Prelude.{◌==◌}
use Rattle.std.specs.Int.{to_be_bytes, w128}
use Rattle.std.specs.List.{list_any}
use Rattle.std.proofs.lemmas.Bool.Decides.{nat_tests}
use Rattle.std.proofs.lemmas.List.{drop_at, length-append}
use Rattle.std.proofs.lemmas.List.Folds.{list_any-append}
use Rattle.std.proofs.lemmas.Slice.Eq.{bytes_eq-Decides}
use Rattle.uuid.specs.Text.{by_index, hex_digit, nibble, lower, hyphen, is_hyphen_place, digit_place}
use Rattle.dk_paths.specs.Numbers.{id_text}
use Rattle.dk_paths.specs.Places.{is_sidecar_name, ends_in_parquet, sidecar_name}
use Rattle.dk_paths.proofs.Uuids.{length-id_text}

-- a byte that is a slash
abbrev is_slash : ℕ → Bool
is_slash byte = byte == 47

no_slash-by_index : (count : ℕ) (f : ℕ → ℕ) → ((k : ℕ) → is_slash (f k) ≡ false) → list_any is_slash (by_index count f) ≡ false
unfolding by_index
no_slash-by_index zero f none = refl
no_slash-by_index (suc count) f none =
    list_any-append is_slash (by_index count f) (f count ∷ []) ∙ rw (no_slash-by_index count f none, none count) refl

digit_no_slash : (digit : ℕ) → is_slash (hex_digit lower digit) ≡ false
digit_no_slash digit = grind (arith, nat_tests)

place_no_slash : (hyphens : Bool) (digit : ℕ) → is_slash (if hyphens then hyphen else hex_digit lower digit) ≡ false
place_no_slash true digit = refl
place_no_slash false digit = digit_no_slash digit

no_slash-id_text : (id : ℕ) → list_any is_slash (id_text id) ≡ false
unfolding id_text
no_slash-id_text id =
    no_slash-by_index 36 _ (λ k. place_no_slash (is_hyphen_place k) (nibble (to_be_bytes w128 id) (digit_place k)))

ends : (id : ℕ) → ends_in_parquet (sidecar_name id) ≡ true
ends id =
    let front : length (sidecar_name id) - 8 ≡ 36 = omega (arith, length-append (id_text id) (codes ".parquet"), length-id_text id) in
    let rest : drop (length (sidecar_name id) - 8) (sidecar_name id) ≡ codes ".parquet" =
    ap (λ n. drop n (sidecar_name id)) front ∙ drop_at (id_text id) (codes ".parquet") 36 (length-id_text id) in
    (bytes_eq-Decides _ (codes ".parquet")).1 rest

no_slash : (id : ℕ) → list_any is_slash (sidecar_name id) ≡ false
no_slash id = list_any-append is_slash (id_text id) (codes ".parquet") ∙ rw (no_slash-id_text id) refl

pub is_sidecar_name-sidecar_name : (id : ℕ) → is_sidecar_name (sidecar_name id) ≡ true
is_sidecar_name-sidecar_name id = rw (no_slash id, ends id) refl
