-- The tokens that a writer has after it wrote the fields of an object, in turn.
use Rattle.std.specs.Prelude.{◌≡◌, ℕ, List, [], ◌∷◌, ◌++◌, map, Option, Some, None}
use Rattle.std.specs.Ordering.{nat_cmp}
use Rattle.std.specs.Cmp.Lexicographic.{slice_cmp}
use Rattle.std.specs.List.Sorted.{IsStrictlySortedBy}
use Rattle.json.specs.Token.{Token, key, string}
use Rattle.json.specs.Tree.{json_tokens}
use Rattle.json.specs.Written.{Written}
use Rattle.serde_json.specs.Data.{Data}
use Rattle.serde_json.specs.Written.{outline, compact_text}
use Rattle.dk_model.specs.Shown.{Field, object_with, text_or_null_data}

-- the tokens of a value
abbrev pub tokens_of : Data → List Token
tokens_of d = json_tokens (outline d)

-- the writer has these tokens, behind what its buffer held at the start
abbrev pub HasTokens : Written → List Token → Written → Type 0
HasTokens old ts new = (new.before ≡ old.before) × (new.tokens ≡ ts)

-- after a field, where it has a value
unfoldable pub after_field : List Token → List ℕ → Option Data → List Token
after_field ts k None = ts
after_field ts k (Some d) = (ts ++ key k ∷ []) ++ tokens_of d

abbrev pub after_fields : List Token → List Field → List Token
after_fields ts [] = ts
after_fields ts (f ∷ fs) = after_fields (after_field ts f.0 f.1) fs

-- the keys of a table rise in byte order
abbrev pub keys_of : List Field → List (List ℕ)
keys_of fs = map (λ f. f.0) fs

abbrev pub AreRising : List Field → Type 0
AreRising fs = IsStrictlySortedBy (slice_cmp nat_cmp) (keys_of fs)

-- the line of an object under a key
abbrev pub object_line : List ℕ → List Field → List ℕ
object_line k fs = compact_text (object_with ((k, Some (object_with fs)) ∷ [])) ++ 10 ∷ []

-- after the pairs of a map of texts
abbrev pub after_pairs : List Token → List (List ℕ × Option (List ℕ)) → List Token
after_pairs ts [] = ts
after_pairs ts (p ∷ ps) = after_pairs (after_field ts p.0 (Some (text_or_null_data p.1))) ps

-- after the texts of a list
abbrev pub after_names : List Token → List (List ℕ) → List Token
after_names ts [] = ts
after_names ts (n ∷ ns) = after_names (ts ++ string n ∷ []) ns
