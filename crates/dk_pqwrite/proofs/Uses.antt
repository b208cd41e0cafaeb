-- The distinct texts in the order of their first use, one text after another.
use Rattle.std.proofs.Common.{◌≡◌, ℕ, zero, suc, ◌+◌, ◌<◌, ◌≤◌, Bool, true, false, cond, not, ◌||◌, nat_eq, Bor, Option, Some, None, List, [], ◌∷◌, ◌++◌, length, map, take, get_or, refl, sym, ap, subst, ◌∙◌, arith, append-nil}
use Rattle.std.specs.Str.{bytes_eq}
use Rattle.std.specs.Cmp.Lexicographic.{pointwise}
use Rattle.std.specs.List.{filter, list_any, slice_get}
use Rattle.std.specs.Option.{option_and_then, option_map, option_to_list}
use Rattle.std.proofs.lemmas.List.{length-append, map-append}
use Rattle.std.proofs.lemmas.List.Elements.{filter-append, filter_map-append}
use Rattle.std.proofs.lemmas.Option.{slice_get-map}
use Rattle.std.proofs.lemmas.Slice.Eq.{bytes_eq-Decides}
use Rattle.dk_levels.specs.Borrowed.{borrowed_triple}
use Rattle.dk_pqmodel.specs.Datum.{Triple}
use Rattle.dk_levels.specs.declared.borrowed.BorrowedTriple.{BorrowedTriple}
use Rattle.dk_pqwrite.specs.FirstUses.{AreTheirs, first_uses, text_value, texts_in}
use Rattle.dk_pqwrite.proofs.AddingPlain.{entries_more, single}

abbrev pub Text : Type 0
Text = List ℕ

abbrev pub Key : Type 0
Key = Bor (List ℕ)

abbrev pub shown : List Key → List Text
shown keys = map (λ k. k.now) keys

-- the texts once this one is used too
abbrev used : List Text → Text → List Text
used texts text = cond (list_any (bytes_eq text) texts) texts (texts ++ text ∷ [])

abbrev inserted : List Key → Key → List Key
inserted keys key = cond (list_any (λ (k : Key). pointwise nat_eq key.now k.now) keys) keys (keys ++ key ∷ [])

any_shown : (key : Key) (keys : List Key) → list_any (λ (k : Key). pointwise nat_eq key.now k.now) keys ≡ list_any (bytes_eq key.now) (shown keys)
any_shown key [] = refl
any_shown key (k ∷ ks) = ap (λ b. bytes_eq key.now k.now || b) (any_shown key ks)

shown_cond : (b : Bool) (keys : List Key) (key : Key) → shown (cond b keys (keys ++ key ∷ [])) ≡ cond b (shown keys) (shown keys ++ key.now ∷ [])
shown_cond true keys key = refl
shown_cond false keys key = map-append (λ (k : Key). k.now) keys (key ∷ [])

shown_used : (keys : List Key) (key : Key) → shown (inserted keys key) ≡ used (shown keys) key.now
shown_used keys key =
    shown_cond (list_any (λ (k : Key). pointwise nat_eq key.now k.now) keys) keys key ∙ ap (λ b. cond b (shown keys) (shown keys ++ key.now ∷ [])) (any_shown key keys)

-- ---- one text more

abbrev others : Text → List Text → List Text
others text texts = filter (λ other. not (bytes_eq text other)) texts

-- a text is found among the others, if it isn't the one that is left out
any_others : (x t : Text) (ys : List Text) → bytes_eq t x ≡ false → list_any (bytes_eq t) (others x ys) ≡ list_any (bytes_eq t) ys
any_others x t [] apart = refl
any_others x t (y ∷ ys) apart = here (bytes_eq x y) refl (any_others x t ys apart) where
  here : (b : Bool) → bytes_eq x y ≡ b → list_any (bytes_eq t) (others x ys) ≡ list_any (bytes_eq t) ys
      → list_any (bytes_eq t) (cond (not (bytes_eq x y)) (y ∷ others x ys) (others x ys)) ≡ (bytes_eq t y || list_any (bytes_eq t) ys)
  here true e rest =
      let same : x ≡ y = (bytes_eq-Decides x y).0 e in
      let no_use : bytes_eq t y ≡ false = subst (λ z. bytes_eq t z ≡ false) same apart in
      rw (e, no_use) rest
  here false e rest = rw e (ap (λ b. bytes_eq t y || b) rest)

eq_turned : (x t : Text) (b : Bool) → bytes_eq t x ≡ b → bytes_eq x t ≡ b
eq_turned x t true e = (bytes_eq-Decides x t).1 (sym ((bytes_eq-Decides t x).0 e))
eq_turned x t false e = apart (bytes_eq x t) refl where
  apart : (b : Bool) → bytes_eq x t ≡ b → bytes_eq x t ≡ false
  apart false h = h
  apart true h = absurd (never (sym ((bytes_eq-Decides t x).1 (sym ((bytes_eq-Decides x t).0 h))) ∙ e)) where
    never : true ≡ false → ⊥
    never k = cc

others_last : (x t : Text) (ys : List Text) (b : Bool) → bytes_eq t x ≡ b → others x (ys ++ t ∷ []) ≡ others x ys ++ cond b [] (t ∷ [])
others_last x t ys true e = rw (filter-append (λ other. not (bytes_eq x other)) ys (t ∷ []), eq_turned x t true e) refl
others_last x t ys false e = rw (filter-append (λ other. not (bytes_eq x other)) ys (t ∷ []), eq_turned x t false e) refl

-- either way the others are the same
others_used : (x t : Text) (ys : List Text) (b : Bool) → bytes_eq t x ≡ true → others x (cond b ys (ys ++ t ∷ [])) ≡ others x ys
others_used x t ys true e = refl
others_used x t ys false e = others_last x t ys true e ∙ append-nil (others x ys)

others_apart : (x t : Text) (ys : List Text) (b : Bool) → bytes_eq t x ≡ false → others x (cond b ys (ys ++ t ∷ [])) ≡ cond b (others x ys) (others x ys ++ t ∷ [])
others_apart x t ys true e = refl
others_apart x t ys false e = others_last x t ys false e

front_cond : (b : Bool) (x t : Text) (zs : List Text) → x ∷ cond b zs (zs ++ t ∷ []) ≡ cond b (x ∷ zs) ((x ∷ zs) ++ t ∷ [])
front_cond true x t zs = refl
front_cond false x t zs = refl

behind_first : (x t : Text) (ys : List Text) (b : Bool) → bytes_eq t x ≡ b → x ∷ others x (used ys t) ≡ used (x ∷ others x ys) t
behind_first x t ys true e = rw e (ap (λ zs. x ∷ zs) (others_used x t ys (list_any (bytes_eq t) ys) e))
behind_first x t ys false e =
    rw (e, any_others x t ys e) (ap (λ zs. x ∷ zs) (others_apart x t ys (list_any (bytes_eq t) ys) e) ∙ front_cond (list_any (bytes_eq t) ys) x t (others x ys))

uses_more : (texts : List Text) (t : Text) → first_uses (texts ++ t ∷ []) ≡ used (first_uses texts) t
uses_more [] t = refl
uses_more (x ∷ xs) t = ap (λ ys. x ∷ others x ys) (uses_more xs t) ∙ behind_first x t (first_uses xs) (bytes_eq t x) refl

-- ---- places

get_longer : (es more : List Text) (place : ℕ) (t : Text) → slice_get es place ≡ Some t → slice_get (es ++ more) place ≡ Some t
get_longer [] more place t h = absurd (never h) where
  never : None ≡ Some t → ⊥
  never k = cc
get_longer (e ∷ es) more zero t h = h
get_longer (e ∷ es) more (suc place) t h = get_longer es more place t h

pub some_parts : (a b : Option Text) (x y : List (Option Text)) → a ∷ x ≡ b ∷ y → (a ≡ b) × (x ≡ y)
some_parts a b x y h = (ap first_of h, ap behind_of h) where
  first_of : List (Option Text) → Option Text
  first_of [] = None
  first_of (z ∷ zs) = z

  behind_of : List (Option Text) → List (Option Text)
  behind_of [] = []
  behind_of (z ∷ zs) = zs

pub nil_cons : (z : Option Text) (zs : List (Option Text)) → [] ≡ z ∷ zs → ⊥
nil_cons z zs h = cc

theirs_longer : (es more : List Text) (places : List ℕ) (texts : List Text) → AreTheirs es places texts → AreTheirs (es ++ more) places texts
theirs_longer es more [] [] h = refl
theirs_longer es more (p ∷ ps) (t ∷ ts) h =
    let both = some_parts (slice_get es p) (Some t) (map (λ place. slice_get es place) ps) (map Some ts) h in
    rw (get_longer es more p t both.0, theirs_longer es more ps ts both.1) refl
theirs_longer es more [] (t ∷ ts) h = absurd (nil_cons (Some t) (map Some ts) h)
theirs_longer es more (p ∷ ps) [] h = absurd (nil_cons (slice_get es p) (map (λ place. slice_get es place) ps) (sym h))

one_theirs : (es : List Text) (places : List ℕ) (texts : List Text) (p : ℕ) (t : Text) → AreTheirs es places texts → slice_get es p ≡ Some t → AreTheirs es (places ++ p ∷ []) (texts ++ t ∷ [])
one_theirs es places texts p t h e =
    map-append (λ place. slice_get es place) places (p ∷ []) ∙ ap (λ xs. xs ++ slice_get es p ∷ []) h ∙ ap (λ x. map Some texts ++ x ∷ []) e ∙ sym (map-append Some texts (t ∷ []))

used_longer : (b : Bool) (es : List Text) (t : Text) (places : List ℕ) (texts : List Text) → AreTheirs es places texts → AreTheirs (cond b es (es ++ t ∷ [])) places texts
used_longer true es t places texts h = h
used_longer false es t places texts h = theirs_longer es (t ∷ []) places texts h

-- ---- one triple more

pub record Kept (keys : List Key) (places : List ℕ) (texts : List Text) (most : ℕ) : Type 0 where
  pub uses : shown keys ≡ first_uses texts
  pub theirs : AreTheirs (shown keys) places texts
  pub few : length keys ≤ most

few_more : (b : Bool) (keys : List Key) (key : Key) (most : ℕ) → length keys ≤ most → length (cond b keys (keys ++ key ∷ [])) ≤ most + 1
few_more true keys key most h = omega arith
few_more false keys key most h = omega (arith, h, length-append keys (key ∷ []))

same_key : (keys : List Key) (key : Key) (place : ℕ) → (k : Key) × (slice_get keys place ≡ Some k) × (pointwise nat_eq key.now k.now ≡ true) → slice_get (shown keys) place ≡ Some key.now
same_key keys key place stored =
    let same : key.now ≡ stored.0.now = (bytes_eq-Decides key.now stored.0.now).0 stored.2 in
    slice_get-map (λ (k : Key). k.now) keys place ∙ ap (option_map (λ (k : Key). k.now)) stored.1 ∙ ap Some (sym same)

pub kept_more : (keys new : List Key) (places : List ℕ) (texts : List Text) (most place : ℕ) (key : Key) → Kept keys places texts most → new ≡ inserted keys key
    → (k : Key) × (slice_get new place ≡ Some k) × (pointwise nat_eq key.now k.now ≡ true) → Kept new (places ++ place ∷ []) (texts ++ key.now ∷ []) (most + 1)
kept_more keys new places texts most place key h e stored =
    let now : shown new ≡ used (shown keys) key.now = ap shown e ∙ shown_used keys key in
    record {
      uses = now ∙ ap (λ ts. used ts key.now) h.uses ∙ sym (uses_more texts key.now);
      theirs = one_theirs (shown new) places texts place key.now (rw now (used_longer (list_any (bytes_eq key.now) (shown keys)) (shown keys) key.now places texts h.theirs)) (same_key new key place stored);
      few = rw e (few_more (list_any (λ (k : Key). pointwise nat_eq key.now k.now) keys) keys key most h.few);
    }

module _ (triples : List BorrowedTriple) (i : ℕ) (t : BorrowedTriple) (within : i < length triples) (there : t ≡ get_or triples i t) where
  pub texts_more : (b : Option Text) → b ≡ option_and_then text_value (borrowed_triple t).value → texts_in (map borrowed_triple (take (i + 1) triples)) ≡ texts_in (map borrowed_triple (take i triples)) ++ option_to_list b
  texts_more b e =
      let both = filter_map-append (λ (x : Triple). option_and_then text_value x.value) (map borrowed_triple (take i triples)) (borrowed_triple t ∷ []) in
      rw (entries_more triples i t within there, e) (both ∙ ap (λ xs. texts_in (map borrowed_triple (take i triples)) ++ xs) (single (option_and_then text_value (borrowed_triple t).value)))

pub kept_later : (keys : List Key) (places : List ℕ) (texts : List Text) (most : ℕ) → Kept keys places texts most → Kept keys places texts (most + 1)
kept_later keys places texts most h = record { uses = h.uses; theirs = h.theirs; few = omega (arith, h.few) }
