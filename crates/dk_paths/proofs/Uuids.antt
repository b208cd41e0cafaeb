-- A UUID's one spelling: it has 36 bytes, and it parses to the UUID.
use Rattle.std.proofs.Common.{◌≡◌, ℕ, zero, suc, ◌^◌, ◌<◌, List, length, All, Option, Some, inl, refl, ap, sym, ◌∙◌, arith}
use Rattle.std.specs.Int.{to_be_bytes, from_be_bytes, bytes_high_first, byte_at, w128}
use Rattle.std.proofs.lemmas.List.Elements.{All-cons}
use Rattle.uuid.specs.Text.{lower, parsed, parsed_hyphenated}
use Rattle.uuid.proofs.TextLemmas.{by_index_length}
use Rattle.uuid.proofs.RoundTrips.{parses_hyphenated, parses_hyphenated_text}
use Rattle.uuid.proofs.OrderLemmas.{from_be_bytes-to_be_bytes_16}
use Rattle.dk_paths.specs.Numbers.{id_text, id_of_bytes}

pub length-id_text : (id : ℕ) → length (id_text id) ≡ 36
unfolding id_text
length-id_text id = by_index_length 36 _

byte_fits : (k n : ℕ) → byte_at k n < 256
byte_fits zero n = omega arith
byte_fits (suc k) n = omega arith

bytes_fit : (count n : ℕ) → All (λ b. b < 256) (bytes_high_first count n)
bytes_fit zero n = λ k d within. absurd (omega arith)
bytes_fit (suc count) n = All-cons (λ b. b < 256) (byte_at count n) (bytes_high_first count n) (byte_fits count n) (bytes_fit count n)

-- the spelling of a UUID parses to its bytes
pub parsed-id_text : (id : ℕ) → Some (to_be_bytes w128 id) ≡ parsed (id_text id)
unfolding id_text
parsed-id_text id = parses_hyphenated lower (to_be_bytes w128 id) (inl refl) refl (bytes_fit 16 id)

pub parsed_hyphenated-id_text : (id : ℕ) → Some (to_be_bytes w128 id) ≡ parsed_hyphenated (id_text id)
unfolding id_text
parsed_hyphenated-id_text id = parses_hyphenated_text lower (to_be_bytes w128 id) (inl refl) refl (bytes_fit 16 id)

-- a text that doesn't parse spells no UUID
pub no_id : (text : List ℕ) (id : ℕ) → ((bytes : List ℕ) → parsed text ≡ Some bytes → ⊥) → id_text id ≡ text → ⊥
no_id text id none spelled = none (to_be_bytes w128 id) (ap parsed (sym spelled) ∙ sym (parsed-id_text id))

-- a text that spells a UUID parses to its number
pub same_id : (text bytes : List ℕ) (id : ℕ) → id < 2 ^ 128 → Some bytes ≡ parsed text → id_text id ≡ text → from_be_bytes w128 bytes ≡ id
same_id text bytes id small parses spelled =
    let same : Some bytes ≡ Some (to_be_bytes w128 id) = parses ∙ ap parsed (sym spelled) ∙ sym (parsed-id_text id) in
    ap (λ (o : Option (List ℕ)). id_of_bytes o) same ∙ from_be_bytes-to_be_bytes_16 id small
