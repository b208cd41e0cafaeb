-- One field more, and what its struct's fields are then.
use Rattle.std.proofs.Common.{◌≡◌, Bool, true, false, ℤ, pos, Option, Some, None, [], ◌∷◌, ◌++◌, refl, sym, ap, ◌∙◌, append_assoc, unwrap_or}
use Rattle.std.proofs.lemmas.List.{append-nil}
use Rattle.std.specs.Ordering.{int_eq}
use Rattle.dk_grammar.proofs.LastUnder.{last_more}
use Rattle.dk_grammar.specs.Structs.{FieldValues, under, when, first_of_two, last_under}
use Rattle.dk_grammar.specs.PageHeaders.{Part, number, inner, own_number, own_inner, numbers_in, inners_in}
use Rattle.dk_pages.specs.Headers.{numbers_of, header_fields, with_number, with_part}

pub numbers_grow : (id : ℤ) (value : Option ℤ) (done : FieldValues ℤ) → numbers_of (done ++ under id value []) ≡ with_number id value (numbers_of done)
numbers_grow id None done = ap numbers_of (append-nil done)
numbers_grow id (Some z) done =
    rw (last_more (pos 1) id z done, last_more (pos 2) id z done, last_more (pos 3) id z done, last_more (pos 4) id z done, last_more (pos 5) id z done, last_more (pos 6) id z done)
    refl

numbers_more : (done : FieldValues Part) (x : ℤ × Part) → numbers_in (done ++ (x ∷ [])) ≡ numbers_in done ++ own_number x.0 x.1
numbers_more [] x = append-nil _
numbers_more (y ∷ ys) x = ap (λ more. own_number y.0 y.1 ++ more) (numbers_more ys x) ∙ sym (append_assoc (own_number y.0 y.1) (numbers_in ys) (own_number x.0 x.1))

inners_more : (done : FieldValues Part) (x : ℤ × Part) → inners_in (done ++ (x ∷ [])) ≡ inners_in done ++ own_inner x.0 x.1
inners_more [] x = append-nil _
inners_more (y ∷ ys) x = ap (λ more. own_inner y.0 y.1 ++ more) (inners_more ys x) ∙ sym (append_assoc (own_inner y.0 y.1) (inners_in ys) (own_inner x.0 x.1))

-- the last of two inner headers, as numbers by id
picked : {A B : Type 0} (f : A → B) (b : Bool) (x other : A) (o : Option A) → f (unwrap_or (first_of_two (when b x) o) other) ≡ unwrap_or (when b (f x)) (f (unwrap_or o other))
picked f true x other o = refl
picked f false x other o = refl

pub parts_grow : (id : ℤ) (part : Option Part) (done : FieldValues Part) → header_fields (done ++ under id part []) ≡ with_part id part (header_fields done)
parts_grow id None done = ap header_fields (append-nil done)
parts_grow id (Some (number z)) done =
    rw (numbers_more done (id, number z), inners_more done (id, number z), append-nil (inners_in done)) (ap (λ own. record (header_fields done) { own = own }) (numbers_grow id (Some z) (numbers_in done)))
parts_grow id (Some (inner numbers)) done =
    rw (numbers_more done (id, inner numbers), append-nil (numbers_in done), inners_more done (id, inner numbers), last_more (pos 5) id numbers (inners_in done), last_more (pos 7) id numbers (inners_in done), last_more (pos 8) id numbers (inners_in done))
    (let five = picked numbers_of (int_eq id (pos 5)) numbers [] (last_under (pos 5) (inners_in done)) in
    let seven = picked numbers_of (int_eq id (pos 7)) numbers [] (last_under (pos 7) (inners_in done)) in
    let eight = picked numbers_of (int_eq id (pos 8)) numbers [] (last_under (pos 8) (inners_in done)) in
    cc)
