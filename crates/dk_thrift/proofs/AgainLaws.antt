-- What a call wrote is read again.
use Rattle.std.proofs.Common.{◌≡◌, ℕ, ◌<◌, ◌≤◌, ◌^◌, true, ℤ, pos, negsuc, FitsSigned, w16, arith, List, ◌∷◌, ◌++◌, Option, Some, reverse, Ok, refl, ◌∙◌}
use Rattle.std.proofs.lemmas.Bool.{and_from, le-leb}
use Rattle.dk_grammar.specs.Thrift.{Front, is_id}
use Rattle.dk_grammar.specs.Grammar.{ReadsBy}
use Rattle.dk_thrift.specs.Writing.{structs_of}

pub again : {A : Type 0} (S : List ℕ → A → Type 0) (read : List ℕ → Front A) → ReadsBy S read → (x : A) (more old new : List ℕ) → S more x → new ≡ old ++ more
    → (bytes : List ℕ) × (new ≡ old ++ bytes) × ((rest : List ℕ) → read (bytes ++ rest) ≡ Ok (x, rest))
again S read by x more old new s e = (more, e, λ rest. by.given more rest x s)

few_below : (n : ℕ) → n < 2 ^ 15 → n ≤ 32767
few_below n h = omega arith

-- an id of 16 bits
pub is_id_of_16 : (id : ℤ) → FitsSigned w16 id → is_id id ≡ true
is_id_of_16 (pos n) h = le-leb n 32767 (few_below n h.sfits)
is_id_of_16 (negsuc n) h = and_from _ _ (le-leb n 32767 (few_below n h.sfits)) refl

first_is : (x y : ℤ) (xs ys : List ℤ) → x ∷ xs ≡ y ∷ ys → x ≡ y
first_is x y xs ys h = cc

-- the current struct's last id is the first of the open structs'
pub current_is : (current : Option ℤ) (outer : List ℤ) (structs more : List ℤ) (given last : ℤ) → structs_of current outer ≡ structs → current ≡ Some given → structs ≡ last ∷ more → given ≡ last
current_is current outer structs more given last view is e = first_is given last (reverse outer) more ((rw is at view) ∙ e)
