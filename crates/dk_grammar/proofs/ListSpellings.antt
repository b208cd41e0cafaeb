-- Lists, and structs that hold a value beside others, are read by their grammars.
use Rattle.std.proofs.Common.{◌≡◌, ℕ, zero, suc, ◌==◌, true, false, ℤ, Option, Some, None, option_map, List, [], ◌∷◌, ◌++◌, length, Ok, inl, inr, refl, sym, ap, subst, ◌∙◌, append_assoc, arith}
use Rattle.std.proofs.lemmas.Bool.{eqb-true, eq-eqb, or_cases, or_right}
use Rattle.dk_grammar.specs.Thrift.{Front, ◌>>=◌, list_at, head}
use Rattle.dk_grammar.specs.Grammar.{ReadsBy, Spelled, SpellsList}
use Rattle.dk_grammar.specs.Structs.{Meaning}
use Rattle.dk_grammar.specs.Nested.{Repeats, SpellsElements, SpellsAnyElement}
use Rattle.dk_grammar.specs.Passed.{kind_numbered}
use Rattle.dk_grammar.specs.Lists.{each_at, list_of, SpellsEach, may_hold, SpellsListHeader, SpellsListOf, Either, held, other, is_held, held_or, SpellsHeldOr, read_turned, SpelledBy}
use Rattle.dk_grammar.specs.declared.thrift.ListHead.{ListHead}
use Rattle.dk_grammar.proofs.Fronts.{choice, bound, ok_is, bad_is_not_ok}
use Rattle.dk_grammar.proofs.Spellings.{lists}

joined : (bytes front middle more rest : List ℕ) → bytes ≡ front ++ middle → middle ≡ more ++ rest → bytes ≡ (front ++ more) ++ rest
joined bytes front middle more rest e f = e ∙ ap (λ x. front ++ x) f ∙ sym (append_assoc front more rest)

same_head : (list : ListHead) (count : ℕ) → count ≡ list.count → list ≡ head count list.kind
same_head list count e = rw e refl

-- the header of a list of the kind itself
pub own_header : (kind count : ℕ) (bytes : List ℕ) → SpellsList bytes (head count kind) → SpellsListHeader kind count bytes
own_header kind count bytes s = (kind, or_right (count == 0) (kind == kind) (eq-eqb kind kind refl), s)

module _ {A : Type 0} (spells : List ℕ → A → Type 0) (read : List ℕ → Front A) (by : ReadsBy spells read) where
  abbrev Each : ℕ → List ℕ → List A × List ℕ → Type 0
  Each n bytes y = (length y.0 ≡ n) × Spelled (SpellsEach spells) bytes y.0 y.1

  each_spelled : (n : ℕ) (bytes : List ℕ) (y : List A × List ℕ) → each_at read n bytes ≡ Ok y → Each n bytes y
  each_spelled zero bytes y h = subst (Each zero bytes) (ok_is ([], bytes) y h) (refl, ([], refl, refl))
  each_spelled (suc n) bytes y h =
      let x = bound (read bytes) (λ x. each_at read n x.1 >>= λ more. Ok (x.0 ∷ more.0, more.1)) y h in
      let z = bound (each_at read n x.0.1) (λ more. Ok (x.0.0 ∷ more.0, more.1)) y x.2 in
      let t = by.spelled bytes x.0.1 x.0.0 x.1 in
      let u = each_spelled n x.0.1 z.0 z.1 in
      subst (Each (suc n) bytes) (ok_is (x.0.0 ∷ z.0.0, z.0.1) y z.2)
      (ap suc u.0, (t.0 ++ u.1.0, joined bytes t.0 x.0.1 u.1.0 z.0.1 t.1 u.1.1, (t.0, (u.1.0, refl, t.2, u.1.2))))

  each_given : (xs : List A) (front rest : List ℕ) → SpellsEach spells front xs → each_at read (length xs) (front ++ rest) ≡ Ok (xs, rest)
  each_given [] front rest s = rw s refl
  each_given (x ∷ xs) front rest s =
      rw (s.1.1, append_assoc s.0 s.1.0 rest, by.given s.0 (s.1.0 ++ rest) x s.1.2, each_given xs s.1.0 rest s.1.3) refl

  list_spelled : (kind : ℕ) (bytes rest : List ℕ) (xs : List A) → list_of kind read bytes ≡ Ok (xs, rest) → Spelled (SpellsListOf kind spells) bytes xs rest
  list_spelled kind bytes rest xs h =
      let x = bound (list_at bytes) _ (xs, rest) h in
      elim (choice (may_hold kind x.0.0.count x.0.0.kind) _ _ _ x.2) [
        | inl c ↦ (
            let t = lists.spelled bytes x.0.1 x.0.0 x.1 in
            let u = each_spelled x.0.0.count x.0.1 (xs, rest) c.1 in
            let same = same_head x.0.0 (length xs) u.0 in
            let header : SpellsListHeader kind (length xs) t.0 = (x.0.0.kind, subst (λ n. may_hold kind n x.0.0.kind ≡ true) (sym u.0) c.0, subst (SpellsList t.0) same t.2) in
            (t.0 ++ u.1.0, joined bytes t.0 x.0.1 u.1.0 rest t.1 u.1.1, (t.0, (u.1.0, refl, header, u.1.2))))
        | inr c ↦ absurd (bad_is_not_ok bytes (xs, rest) c.1)
      ]

  list_given : (kind : ℕ) (front rest : List ℕ) (xs : List A) → SpellsListOf kind spells front xs → list_of kind read (front ++ rest) ≡ Ok (xs, rest)
  list_given kind front rest xs s =
      rw (s.1.1, append_assoc s.0 s.1.0 rest, lists.given s.0 (s.1.0 ++ rest) (head (length xs) s.1.2.0) s.1.2.2, s.1.2.1) (each_given xs s.1.0 rest s.1.3)

  pub lists_by : (kind : ℕ) → ReadsBy (SpellsListOf kind spells) (list_of kind read)
  lists_by kind = record { spelled = list_spelled kind; given = list_given kind }

-- A list of values is passed over where each of them is.
module _ {A : Type 0} (kind levels : ℕ) (spells : List ℕ → A → Type 0) (passed : (bytes : List ℕ) (x : A) → spells bytes x → SpellsAnyElement levels (kind_numbered kind) bytes) where
  each_passed : (values : List A) (bytes : List ℕ) → SpellsEach spells bytes values → Repeats (SpellsAnyElement levels (kind_numbered kind)) (length values) bytes
  each_passed [] bytes s = s
  each_passed (x ∷ xs) bytes s = (s.0, (s.1.0, s.1.1, passed s.0 x s.1.2, each_passed xs s.1.0 s.1.3))

  -- the kind of a list that has elements
  held_kind : (count of : ℕ) → may_hold kind (suc count) of ≡ true → of ≡ kind
  held_kind count of h =
      elim (or_cases (suc count == 0) (of == kind) h) [
        | inl none ↦ (let never : suc count ≡ 0 = eqb-true (suc count) 0 none in absurd (omega arith))
        | inr same ↦ eqb-true of kind same
      ]

  pub list_passed_by : (values : List A) (bytes : List ℕ) → SpellsListOf kind spells bytes values → SpellsElements (SpellsAnyElement levels) bytes
  list_passed_by [] bytes s = (head 0 s.1.2.0, (s.0, (s.1.0, s.1.1, s.1.2.2, s.1.3)))
  list_passed_by (x ∷ xs) bytes s =
      let header : SpellsList s.0 (head (length (x ∷ xs)) kind) = subst (λ of. SpellsList s.0 (head (length (x ∷ xs)) of)) (held_kind (length xs) s.1.2.0 s.1.2.1) s.1.2.2 in
      (head (length (x ∷ xs)) kind, (s.0, (s.1.0, s.1.1, header, each_passed (x ∷ xs) s.1.0 s.1.3)))

module _ {A B : Type 0} (f : A → B) (spells : List ℕ → A → Type 0) (read : List ℕ → Front A) (by : ReadsBy spells read) where
  turned_spelled : (bytes rest : List ℕ) (y : B) → read_turned f read bytes ≡ Ok (y, rest) → Spelled (SpelledBy f spells) bytes y rest
  turned_spelled bytes rest y h =
      let x = bound (read bytes) (λ x. Ok (f x.0, x.1)) (y, rest) h in
      let t = by.spelled bytes x.0.1 x.0.0 x.1 in
      subst (λ (z : B × List ℕ). Spelled (SpelledBy f spells) bytes z.0 z.1) (ok_is (f x.0.0, x.0.1) (y, rest) x.2) (t.0, t.1, (x.0.0, t.2, refl))

  turned_given : (front rest : List ℕ) (y : B) → SpelledBy f spells front y → read_turned f read (front ++ rest) ≡ Ok (y, rest)
  turned_given front rest y s = rw (by.given front rest s.0 s.1, s.2) refl

  pub turned_by : ReadsBy (SpelledBy f spells) (read_turned f read)
  turned_by = record { spelled = turned_spelled; given = turned_given }

module _ {A B : Type 0} (wanted : ℤ) (of : ℕ) (spells : List ℕ → A → Type 0) (read : List ℕ → Front A) (by : ReadsBy spells read)
    (others : ℤ → ℕ → List ℕ → Option B → Type 0) (rest_at : Meaning B) (rest_by : (id : ℤ) (kind : ℕ) → ReadsBy (others id kind) (rest_at id kind)) (id : ℤ) (kind : ℕ) where
  abbrev Is : List ℕ → Option (Either A B) × List ℕ → Type 0
  Is bytes y = Spelled (SpellsHeldOr wanted of spells others id kind) bytes y.0 y.1

  as_other : (front : List ℕ) (y : Option B) → is_held wanted of id kind ≡ false → others id kind front y → SpellsHeldOr wanted of spells others id kind front (option_map other y)
  as_other front None f s = (f, s)
  as_other front (Some y) f s = (f, s)

  held_spelled : (bytes rest : List ℕ) (value : Option (Either A B)) → held_or wanted of read rest_at id kind bytes ≡ Ok (value, rest) → Is bytes (value, rest)
  held_spelled bytes rest value h =
      elim (choice (is_held wanted of id kind) _ _ _ h) [
        | inl c ↦ (
            let x = bound (read bytes) (λ x. Ok (Some (held x.0), x.1)) (value, rest) c.1 in
            let t = by.spelled bytes x.0.1 x.0.0 x.1 in
            subst (Is bytes) (ok_is (Some (held x.0.0), x.0.1) (value, rest) x.2) (t.0, t.1, (c.0, t.2)))
        | inr c ↦ (
            let x = bound (rest_at id kind bytes) (λ x. Ok (option_map other x.0, x.1)) (value, rest) c.1 in
            let t = (rest_by id kind).spelled bytes x.0.1 x.0.0 x.1 in
            subst (Is bytes) (ok_is (option_map other x.0.0, x.0.1) (value, rest) x.2) (t.0, t.1, as_other t.0 x.0.0 c.0 t.2))
      ]

  held_given : (front rest : List ℕ) (value : Option (Either A B)) → SpellsHeldOr wanted of spells others id kind front value → held_or wanted of read rest_at id kind (front ++ rest) ≡ Ok (value, rest)
  held_given front rest (Some (held x)) s = rw (s.0, by.given front rest x s.1) refl
  held_given front rest (Some (other y)) s = rw (s.0, (rest_by id kind).given front rest (Some y) s.1) refl
  held_given front rest None s = rw (s.0, (rest_by id kind).given front rest None s.1) refl

  pub held_by : ReadsBy (SpellsHeldOr wanted of spells others id kind) (held_or wanted of read rest_at id kind)
  held_by = record { spelled = held_spelled; given = held_given }
