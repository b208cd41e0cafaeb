-- The numbers of a hint that is read are in range.
use Rattle.std.proofs.Common.{◌≡◌, ℕ, ◌^◌, ◌<◌, Bool, true, false, List, Option, Some, None, option_map, option_and_then, nat_lt, nat_le, codes, if◌then◌else◌, Result, Ok, Err, IfOk, refl, sym, subst}
use Rattle.std.specs.Prelude.{IfSome, ⊤}
use Rattle.std.proofs.lemmas.Bool.{ltb-true, leb-true}
use Rattle.serde_json.specs.Data.{Data, null, boolean, number, string, array, object}
use Rattle.serde_json.specs.Find.{get, as_number, as_u64}
use Rattle.serde_json.specs.Read.{read}
use Rattle.dk_model.specs.Fields.{count, below, formed}
use Rattle.dk_hint.specs.declared.hint.Hint.{Hint}
use Rattle.dk_hint.specs.Spelled.{part_count, hint_with, fields_of_hint, agrees_with, hint_in, hint_in_text}
use Rattle.dk_hint.specs.Written.{IsCount, IsPartCount, IsHint}

-- ---- options in turn

anything : {A : Type 0} (o : Option A) → IfSome o (λ x. ⊤)
anything None = tt
anything (Some x) = tt

in_turn : {A B : Type 0} (P : A → Type 0) (Q : B → Type 0) (f : A → Option B) (o : Option A) → IfSome o P → ((x : A) → P x → IfSome (f x) Q) → IfSome (option_and_then f o) Q
in_turn P Q f None h next = tt
in_turn P Q f (Some x) h next = next x h

mapped : {A B : Type 0} (P : A → Type 0) (Q : B → Type 0) (f : A → B) (o : Option A) → IfSome o P → ((x : A) → P x → Q (f x)) → IfSome (option_map f o) Q
mapped P Q f None h next = tt
mapped P Q f (Some x) h next = next x h

-- ---- the numbers

below_limit : (limit n : ℕ) → IfSome (below limit n) (λ m. m < limit)
below_limit limit n = by (nat_lt n limit) refl
  where
    by : (b : Bool) → nat_lt n limit ≡ b → IfSome (if b then Some n else None) (λ m. m < limit)
    by true is = ltb-true n limit is
    by false is = tt

from_one : (n : ℕ) → n < 2 ^ 32 → IfSome (if nat_le 1 n then Some n else None) IsPartCount
from_one n low = by (nat_le 1 n) refl
  where
    by : (b : Bool) → nat_le 1 n ≡ b → IfSome (if b then Some n else None) IsPartCount
    by true is = (leb-true 1 n is, low)
    by false is = tt

count_in_range : (d : Data) → IfSome (count d) IsCount
count_in_range d = in_turn (λ n. ⊤) IsCount (below (2 ^ 63)) (option_and_then as_u64 (as_number d)) (anything _) (λ n _. below_limit (2 ^ 63) n)

parts_in_range : (d : Data) → IfSome (part_count d) IsPartCount
parts_in_range d =
    in_turn (λ n. n < 2 ^ 32) IsPartCount (λ n. if nat_le 1 n then Some n else None) (option_and_then (below (2 ^ 32)) (option_and_then as_u64 (as_number d)))
    (in_turn (λ n. ⊤) (λ n. n < 2 ^ 32) (below (2 ^ 32)) (option_and_then as_u64 (as_number d)) (anything _) (λ n _. below_limit (2 ^ 32) n)) from_one

needed_in_range : (key : List ℕ) (d : Data) → IfSome (option_and_then count (get key d)) IsCount
needed_in_range key d = in_turn (λ e. ⊤) IsCount count (get key d) (anything _) (λ e _. count_in_range e)

formed_in_range : (form : Data → Option ℕ) (P : ℕ → Type 0) → ((d : Data) → IfSome (form d) P) → (o : Option Data) → IfSome (formed form o) (λ x. IfSome x P)
formed_in_range form P each None = tt
formed_in_range form P each (Some d) = mapped P (λ x. IfSome x P) Some (form d) (each d) (λ n h. h)

-- ---- the hint

fields_in_range : (d : Data) → IfSome (fields_of_hint d) IsHint
fields_in_range d =
    in_turn IsCount IsHint _ _ (needed_in_range (codes "version") d) (λ version v.
    in_turn IsCount IsHint _ _ (needed_in_range (codes "size") d) (λ size s.
    in_turn (λ x. IfSome x IsPartCount) IsHint _ _ (formed_in_range part_count IsPartCount parts_in_range (get (codes "parts") d)) (λ parts p.
    mapped (λ x. IfSome x IsCount) IsHint (hint_with version size parts) _ (formed_in_range count IsCount count_in_range (get (codes "numOfAddFiles") d))
    (λ adds a. record { version = v; size = s; parts = p; adds = a }))))

hint_in_range : (d : Data) → IfSome (hint_in d) IsHint
hint_in_range null = tt
hint_in_range (boolean b) = tt
hint_in_range (number n) = tt
hint_in_range (string s) = tt
hint_in_range (array ds) = tt
hint_in_range (object top) = by (agrees_with top (get (codes "checksum") (object top)))
  where
    by : (b : Bool) → IfSome (if b then fields_of_hint (object top) else None) IsHint
    by true = fields_in_range (object top)
    by false = tt

pub told_in_range : {E : Type 0} (result : Result (Option Hint) E) (text : List ℕ) → IfOk result (λ hint. hint ≡ hint_in_text text) → IfOk result (λ hint. IfSome hint IsHint)
told_in_range (Ok hint) text same = subst (λ h. IfSome h IsHint) (sym same) (in_turn (λ d. ⊤) IsHint hint_in (read text) (anything _) (λ d _. hint_in_range d))
told_in_range (Err e) text same = tt
