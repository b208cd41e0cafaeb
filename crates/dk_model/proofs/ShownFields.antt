-- What an object that shows fields has at a key.
use Rattle.std.proofs.Common.{◌≡◌, ℕ, Bool, true, false, ◌&&◌, not, cond, List, [], ◌∷◌, Option, Some, None, option_map, bytes_eq, refl, ap, ◌∙◌}
use Rattle.std.specs.List.{AllByRecursion, list_any}
use Rattle.std.proofs.lemmas.Slice.Eq.{bytes_eq-Decides}
use Rattle.std.proofs.lemmas.Bool.{or_parts}
use Rattle.serde_json.specs.Data.{Data}
use Rattle.dk_model.specs.Fields.{present, field, formed, optional}
use Rattle.dk_model.specs.Shown.{Field, object_with, Shows}
use Rattle.dk_model.proofs.Found.{chosen, found_in, found}

-- what the list has at a key
abbrev pub listed : List ℕ → List Field → Option (Option Data)
listed q [] = None
listed q (f ∷ fs) = cond (bytes_eq q f.0) (Some f.1) (listed q fs)

inner : {A : Type 0} (x y : A) → Some x ≡ Some y → x ≡ y
inner x y e = cc

shown_here : (b : Bool) (q : List ℕ) (f : Field) (fs : List Field) (d : Data) (o : Option Data) → bytes_eq q f.0 ≡ b → field f.0 d ≡ f.1 → (listed q fs ≡ Some o → field q d ≡ o) → cond b (Some f.1) (listed q fs) ≡ Some o → field q d ≡ o
shown_here true q f fs d o same first later e = ap (λ k. field k d) ((bytes_eq-Decides q f.0).0 same) ∙ first ∙ inner _ _ e
shown_here false q f fs d o same first later e = later e

pub shown_at : (q : List ℕ) (fs : List Field) (d : Data) (o : Option Data) → Shows fs d → listed q fs ≡ Some o → field q d ≡ o
shown_at q [] d o s e = cc
shown_at q (f ∷ fs) d o s e = shown_here (bytes_eq q f.0) q f fs d o refl s.0 (shown_at q fs d o s.1) e

-- an optional field is read as it is shown
pub optional_shown : {A : Type 0} (form : Data → Option A) (shown : A → Data) (o : Option A) (q : List ℕ) (d : Data)
    → field q d ≡ option_map shown o → ((x : A) → o ≡ Some x → form (shown x) ≡ Some x) → optional form q d ≡ Some o
optional_shown form shown None q d e back = ap (formed form) e
optional_shown form shown (Some x) q d e back = ap (formed form) e ∙ ap (option_map Some) (back x refl)

-- ---- an object that was made field by field shows them

abbrev has_key : List ℕ → List Field → Bool
has_key q fs = list_any (λ f. bytes_eq q f.0) fs

abbrev pub are_distinct : List Field → Bool
are_distinct [] = true
are_distinct (f ∷ fs) = not (has_key f.0 fs) && are_distinct fs

-- null is no value of a field
abbrev pub AreValues : List Field → Type 0
AreValues fs = AllByRecursion (λ f. present f.1 ≡ f.1) fs

passed : (q : List ℕ) (fs : List Field) (o : Option Data) → has_key q fs ≡ false → found_in q fs o ≡ o
passed q [] o h = refl
passed q (f ∷ fs) o h =
    let parts = or_parts (bytes_eq q f.0) (has_key q fs) h in
    ap (λ b. found_in q fs (chosen b f.1 o)) parts.0 ∙ passed q fs o parts.1

both_parts : (a b : Bool) → (a && b) ≡ true → (a ≡ true) × (b ≡ true)
both_parts true b e = (refl, e)
both_parts false b e = cc

negated : (b : Bool) → not b ≡ true → b ≡ false
negated true e = cc
negated false e = refl

chosen_none : (o : Option Data) → chosen true o None ≡ o
chosen_none None = refl
chosen_none (Some d) = refl

found_here : (b : Bool) (q : List ℕ) (f : Field) (fs : List Field) (o : Option Data) → bytes_eq q f.0 ≡ b → has_key f.0 fs ≡ false → (listed q fs ≡ Some o → found_in q fs None ≡ o) → cond b (Some f.1) (listed q fs) ≡ Some o → found_in q fs (chosen b f.1 None) ≡ o
found_here true q f fs o same none later e =
    ap (found_in q fs) (chosen_none f.1) ∙ passed q fs f.1 (ap (λ k. has_key k fs) ((bytes_eq-Decides q f.0).0 same) ∙ none) ∙ inner _ _ e
found_here false q f fs o same none later e = later e

found_listed : (q : List ℕ) (fs : List Field) (o : Option Data) → are_distinct fs ≡ true → listed q fs ≡ Some o → found_in q fs None ≡ o
found_listed q [] o h e = cc
found_listed q (f ∷ fs) o h e =
    let parts = both_parts (not (has_key f.0 fs)) (are_distinct fs) h in
    found_here (bytes_eq q f.0) q f fs o refl (negated _ parts.0) (found_listed q fs o parts.1) e

none_listed : (q : List ℕ) (fs : List Field) → has_key q fs ≡ false → listed q fs ≡ None
none_listed q [] h = refl
none_listed q (f ∷ fs) h =
    let parts = or_parts (bytes_eq q f.0) (has_key q fs) h in
    ap (λ b. cond b (Some f.1) (listed q fs)) parts.0 ∙ none_listed q fs parts.1

later_listed : (b : Bool) (k : List ℕ) (f : Field) (fs : List Field) (o : Option Data) → bytes_eq k f.0 ≡ b → has_key f.0 fs ≡ false → listed k fs ≡ Some o → cond b (Some f.1) (listed k fs) ≡ Some o
later_listed true k f fs o same none e =
    let no : listed k fs ≡ None = ap (λ q. listed q fs) ((bytes_eq-Decides k f.0).0 same) ∙ none_listed f.0 fs none in cc
later_listed false k f fs o same none e = e

here_listed : (f : Field) (fs : List Field) → listed f.0 (f ∷ fs) ≡ Some f.1
here_listed f fs = ap (λ b. cond b (Some f.1) (listed f.0 fs)) ((bytes_eq-Decides f.0 f.0).1 refl)

shows_from : (all rest : List Field) → are_distinct all ≡ true → are_distinct rest ≡ true → AreValues rest → ((k : List ℕ) (o : Option Data) → listed k rest ≡ Some o → listed k all ≡ Some o) → Shows rest (object_with all)
shows_from all [] distinct rest_distinct values within = tt
shows_from all (f ∷ rest) distinct rest_distinct values within =
    let parts = both_parts (not (has_key f.0 rest)) (are_distinct rest) rest_distinct in (
      found f.0 all ∙ ap present (found_listed f.0 all f.1 distinct (within f.0 f.1 (here_listed f rest))) ∙ values.0,
      shows_from all rest distinct parts.1 values.1 (λ k o e. within k o (later_listed (bytes_eq k f.0) k f rest o refl (negated _ parts.0) e)),
    )

-- an object that is made of fields with distinct keys shows them
pub shows_object : (fs : List Field) → are_distinct fs ≡ true → AreValues fs → Shows fs (object_with fs)
shows_object fs distinct values = shows_from fs fs distinct distinct values (λ k o e. e)
