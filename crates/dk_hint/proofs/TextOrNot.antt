-- Bytes that are UTF-8, and those that aren't.
use Rattle.std.proofs.Common.{◌≡◌, ℕ, List, Bool, true, false, None, refl}
use Rattle.std.specs.Str.{IsUtf8, is_utf8}
use Rattle.std.proofs.lemmas.Str.{IsUtf8-from_is_utf8, is_utf8-from_IsUtf8}
use Rattle.dk_hint.specs.Spelled.{hint_in_text, hint_of}

pub not_text : (bytes : List ℕ) → (IsUtf8 bytes → ⊥) → hint_of bytes ≡ None
not_text bytes h = by (is_utf8 bytes) refl
  where
    by : (b : Bool) → is_utf8 bytes ≡ b → hint_of bytes ≡ None
    by true is = absurd (h (IsUtf8-from_is_utf8 bytes is))
    by false is = rw is refl

pub is_text : (bytes : List ℕ) → IsUtf8 bytes → hint_of bytes ≡ hint_in_text bytes
is_text bytes h = rw (is_utf8-from_IsUtf8 bytes h) refl
