-- Dictionaries of texts.
use Rattle.std.specs.Prelude.{◌≡◌, ℕ, not, Option, Some, None, option_and_then, List, [], ◌∷◌, map, filter, filter_map, slice_get}
use Rattle.std.specs.Str.{bytes_eq}
use Rattle.dk_pqmodel.specs.Datum as cell
use Rattle.dk_pqmodel.specs.Datum.{Value, Column}

-- the text, if it is one
abbrev pub text_value : Value → Option (List ℕ)
text_value (cell.flag b) = None
text_value (cell.int n) = None
text_value (cell.chars t) = Some t

abbrev pub texts_in : Column → List (List ℕ)
texts_in triples = filter_map (λ e. option_and_then text_value e.value) triples

-- the texts in the order of their first use, each once
abbrev pub first_uses : List (List ℕ) → List (List ℕ)
first_uses [] = []
first_uses (text ∷ more) = text ∷ filter (λ other. not (bytes_eq text other)) (first_uses more)

-- each text is the dictionary's at its place
abbrev pub AreTheirs : List (List ℕ) → List ℕ → List (List ℕ) → Type 0
AreTheirs entries places texts = map (λ place. slice_get entries place) places ≡ map Some texts
