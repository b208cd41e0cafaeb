-- Bytes pushed one after the other.
use Rattle.std.proofs.Common.{◌≡◌, ℕ, ◌+◌, ◌<◌, ◌≤◌, ◌/◌, ◌%◌, List, [], ◌∷◌, ◌++◌, sym, ap, ◌∙◌, append_assoc}
use Rattle.dk_grammar.specs.Varint.{varint_bytes}
use Rattle.dk_grammar.proofs.Varints.{last_group_written, low_group_written}

pub goes_on : (now new total : List ℕ) (b n : ℕ) → 128 ≤ n → b ≡ 128 + n % 128 → new ≡ now ++ b ∷ [] → now ++ varint_bytes n ≡ total → new ++ varint_bytes (n / 128) ≡ total
goes_on now new total b n h is pushed all =
    rw (pushed, is) (append_assoc now ((128 + n % 128) ∷ []) (varint_bytes (n / 128)) ∙ ap (λ bytes. now ++ bytes) (sym (low_group_written n h)) ∙ all)

pub ends : (now new total : List ℕ) (n : ℕ) → n < 128 → new ≡ now ++ n ∷ [] → now ++ varint_bytes n ≡ total → new ≡ total
ends now new total n h pushed all = pushed ∙ ap (λ bytes. now ++ bytes) (sym (last_group_written n h)) ∙ all
