-- What is cut off the front of bytes is what stands there.
use Rattle.std.proofs.Common.{◌≡◌, ℕ, ◌^◌, ◌<◌, ◌≤◌, nat_le, Bool, true, false, cond, Option, Some, None, option_and_then, List, ◌++◌, length, take, drop, refl, sym, ap, subst, ◌∙◌, arith, lit<}
use Rattle.std.proofs.Math.Seq.{take-append_seam, drop-append_seam}
use Rattle.std.proofs.lemmas.List.{take-append-drop, length-append, length-take-le}
use Rattle.std.proofs.lemmas.List.Elements.{All-drop, All-take}
use Rattle.std.proofs.lemmas.Bool.{leb-true, le-leb}
use Rattle.dk_grammar.specs.Digits.{number_of}
use Rattle.dk_grammar.specs.Plain.{little}
use Rattle.dk_grammar.proofs.Bodies.{AreBytes}
use Rattle.dk_grammar.proofs.Digits.{digits_of-number_of, length-digits_of, number_of-below, number_of-digits_of}
use Rattle.dk_pages.specs.Split.{cut, sized}

pub none_is_not_some : {A : Type 0} (x : A) → None ≡ Some x → ⊥
none_is_not_some x h = cc

pub some_is : {A : Type 0} (x y : A) → Some x ≡ Some y → x ≡ y
some_is x y h = cc

pub some_bound : {A B : Type 0} (o : Option A) (f : A → Option B) (y : B) → option_and_then f o ≡ Some y → (x : A) × ((o ≡ Some x) × (f x ≡ Some y))
some_bound None f y h = absurd (none_is_not_some y h)
some_bound (Some x) f y h = (x, (refl, h))

pub when_is : {A : Type 0} (b : Bool) (x y : A) → cond b (Some x) None ≡ Some y → (b ≡ true) × (x ≡ y)
when_is true x y h = (refl, some_is x y h)
when_is false x y h = absurd (none_is_not_some y h)

pub cut_given : (part more : List ℕ) (n : ℕ) → length part ≡ n → cut n (part ++ more) ≡ Some (part, more)
cut_given part more n e =
    let room : length part ≤ length (part ++ more) = omega (arith, length-append part more) in
    ap (λ m. cut m (part ++ more)) (sym e) ∙ rw (le-leb (length part) (length (part ++ more)) room, take-append_seam, drop-append_seam) refl

pub cut_found : (n : ℕ) (bytes part more : List ℕ) → cut n bytes ≡ Some (part, more) → (length part ≡ n) × (bytes ≡ part ++ more)
cut_found n bytes part more h =
    let c = when_is (nat_le n (length bytes)) (take n bytes, drop n bytes) (part, more) h in
    let room : n ≤ length bytes = leb-true n (length bytes) c.0 in
    let front : take n bytes ≡ part = ap (λ (x : List ℕ × List ℕ). x.0) c.1 in
    let back : drop n bytes ≡ more = ap (λ (x : List ℕ × List ℕ). x.1) c.1 in
    (sym (ap length front) ∙ length-take-le n bytes room, sym (take-append-drop n bytes) ∙ ap (λ x. x ++ drop n bytes) front ∙ ap (λ x. part ++ x) back)

pub sized_given : (part more : List ℕ) → length part < 2 ^ 32 → sized (little 4 (length part) ++ (part ++ more)) ≡ Some (part, more)
sized_given part more small =
    rw (cut_given (little 4 (length part)) (part ++ more) 4 (length-digits_of 256 4 (length part)), number_of-digits_of 256 4 (length part) (lit< tt) small) (cut_given part more (length part) refl)

-- bytes before others
pub front_bytes : (front more : List ℕ) → AreBytes (front ++ more) → AreBytes front
front_bytes front more small = subst (λ x. AreBytes x) (take-append_seam front more) (All-take (λ byte. byte < 256) (length front) (front ++ more) small)

pub back_bytes : (front more : List ℕ) → AreBytes (front ++ more) → AreBytes more
back_bytes front more small = subst (λ x. AreBytes x) (drop-append_seam front more) (All-drop (λ byte. byte < 256) (length front) (front ++ more) small)

pub sized_found : (bytes part more : List ℕ) → AreBytes bytes → sized bytes ≡ Some (part, more) → (length part < 2 ^ 32) × (bytes ≡ little 4 (length part) ++ (part ++ more))
sized_found bytes part more small h =
    let x = some_bound (cut 4 bytes) (λ x. cut (number_of 256 x.0) x.1) (part, more) h in
    let first = cut_found 4 bytes (x.0.0) (x.0.1) x.1.0 in
    let second = cut_found (number_of 256 x.0.0) (x.0.1) part more x.1.1 in
    let bytes_small : AreBytes (x.0.0) = front_bytes (x.0.0) (x.0.1) (subst (λ y. AreBytes y) first.1 small) in
    let below : number_of 256 (x.0.0) < 256 ^ length (x.0.0) = number_of-below 256 (x.0.0) bytes_small in
    let fits : number_of 256 (x.0.0) < 256 ^ 4 = subst (λ n. number_of 256 (x.0.0) < 256 ^ n) first.0 below in
    let spelled : little 4 (length part) ≡ x.0.0 = ap (little 4) second.0 ∙ ap (λ n. little n (number_of 256 x.0.0)) (sym first.0) ∙ digits_of-number_of 256 (x.0.0) bytes_small in
    (subst (λ n. n < 2 ^ 32) (sym second.0) fits, first.1 ∙ ap (λ y. x.0.0 ++ y) second.1 ∙ ap (λ y. y ++ (part ++ more)) (sym spelled))
