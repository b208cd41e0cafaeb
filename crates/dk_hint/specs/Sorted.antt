-- The keys of a set of texts, by their bytes.
use Rattle.std.specs.Prelude.{ℕ, List, [], ◌∷◌, String, string_bytes}

abbrev pub key_texts : {Y : Type 0} → List (String Y) → List (List ℕ)
key_texts [] = []
key_texts (k ∷ ks) = string_bytes k ∷ key_texts ks
