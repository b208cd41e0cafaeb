-- The fields of a JSON object, each of a form.
use Rattle.std.specs.Prelude.{ℕ, ℤ, ◌^◌, List, [], ◌∷◌, Bool, Option, Some, None, option_map, option_and_then, nat_lt, if◌then◌else◌}
use Rattle.serde_json.specs.Data.{Data, null, object, Items, no_items, item, Members, no_members, member}
use Rattle.serde_json.specs.Find.{get, as_number, as_str, as_bool, as_i64, as_u64, as_array, as_object}

infixl 10 ◌>>=◌
abbrev pub ◌>>=◌ : {A B : Type 0} → Option A → (A → Option B) → Option B
None >>= f = None
(Some x) >>= f = f x

-- null counts as absent
abbrev pub present : Option Data → Option Data
present None = None
present (Some null) = None
present (Some d) = Some d

abbrev pub field : List ℕ → Data → Option Data
field key d = present (get key d)

-- what a field of this form has: nothing where it is absent, and no answer where it has another form
abbrev pub formed : {A : Type 0} → (Data → Option A) → Option Data → Option (Option A)
formed form None = Some None
formed form (Some d) = option_map Some (form d)

abbrev pub optional : {A : Type 0} → (Data → Option A) → List ℕ → Data → Option (Option A)
optional form key d = formed form (field key d)

abbrev pub needed : {A : Type 0} → (Data → Option A) → List ℕ → Data → Option A
needed form key d = option_and_then form (field key d)

-- what a field of this form has: nothing where it is absent or has another form
abbrev pub lenient : {A : Type 0} → (Data → Option A) → List ℕ → Data → Option A
lenient form key d = option_and_then form (field key d)

-- ---- the forms

-- a whole number in the range of i64
abbrev pub whole : Data → Option ℤ
whole d = option_and_then as_i64 (as_number d)

abbrev pub below : ℕ → ℕ → Option ℕ
below limit n = if nat_lt n limit then Some n else None

-- from 0 to 2,147,483,647
abbrev pub version : Data → Option ℕ
version d = option_and_then (below (2 ^ 31)) (option_and_then as_u64 (as_number d))

-- from 0 to 9,223,372,036,854,775,807
abbrev pub count : Data → Option ℕ
count d = option_and_then (below (2 ^ 63)) (option_and_then as_u64 (as_number d))

abbrev pub text : Data → Option (List ℕ)
text = as_str

abbrev pub flag : Data → Option Bool
flag = as_bool

abbrev pub texts_of : Items → Option (List (List ℕ))
texts_of no_items = Some []
texts_of (item d ds) = option_and_then (λ t. option_map (λ ts. t ∷ ts) (texts_of ds)) (text d)

-- a list of texts
abbrev pub names : Data → Option (List (List ℕ))
names d = option_and_then texts_of (as_array d)

-- a text, or null
abbrev pub text_or_null : Data → Option (Option (List ℕ))
text_or_null d = formed text (present (Some d))

abbrev pub pairs_of : Members → Option (List (List ℕ × Option (List ℕ)))
pairs_of no_members = Some []
pairs_of (member k d ms) = option_and_then (λ t. option_map (λ ps. (k, t) ∷ ps) (pairs_of ms)) (text_or_null d)

-- a map of texts
abbrev pub pairs : Data → Option (List (List ℕ × Option (List ℕ)))
pairs d = option_and_then pairs_of (as_object d)

-- an object, as it is
abbrev pub group : Data → Option Data
group d = option_map object (as_object d)
