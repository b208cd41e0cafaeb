-- Bytes begin with at most one run, and hold the first values of runs in at most one way.
use Rattle.std.proofs.Common.{◌≡◌, ℕ, ◌-◌, ◌*◌, ◌^◌, ◌<◌, ◌≤◌, List, [], ◌∷◌, ◌++◌, length, take, replicate, Some, refl, sym, ap, subst, ◌∙◌, arith}
use Rattle.std.proofs.lemmas.List.{append_assoc, append_cancel_left, append_cancel_right, append-nil, take_at, length-append, length-take-le}
use Rattle.std.specs.List.{flat_map}
use Rattle.dk_grammar.specs.Varint.{IsVarint, varint_at}
use Rattle.dk_grammar.specs.Digits.{number_of}
use Rattle.dk_grammar.specs.Runs.{Run, repeated, packed, values_in, header_of, IsBody, IsRun, AreRuns, AreNeeded, AreFirst, BeginRun, EndShort}
use Rattle.dk_grammar.proofs.Varints.{varint_again}
use Rattle.dk_grammar.proofs.Digits.{same_digits}

-- two pieces of the front of one list that have one length
pub same_front : (a b x y : List ℕ) → length a ≡ length b → a ++ x ≡ b ++ y → (a ≡ b) × (x ≡ y)
same_front a b x y len whole =
    let front : a ≡ b = sym (take_at a x (length a) refl) ∙ ap (take (length a)) whole ∙ take_at b y (length a) (sym len) in
    (front, append_cancel_left a x y (whole ∙ ap (λ front. front ++ y) (sym front)))

pub pair_is : (p q : ℕ × List ℕ) → Some p ≡ Some q → p ≡ q
pair_is p q e = cc

pub one_varint : (a b x y : List ℕ) (m n : ℕ) → IsVarint a m → IsVarint b n → a ++ x ≡ b ++ y → (m ≡ n) × (x ≡ y)
one_varint a b x y m n first second whole =
    let same : (m, x) ≡ (n, y) = pair_is (m, x) (n, y) (sym (varint_again a x m first) ∙ ap varint_at whole ∙ varint_again b y n second) in
    (ap (λ (p : ℕ × List ℕ). p.0) same, ap (λ (p : ℕ × List ℕ). p.1) same)

-- the bodies of runs of one number
one_body : (width : ℕ) (run other : Run) (a b x y : List ℕ) → header_of run ≡ header_of other → IsBody width run a → IsBody width other b → a ++ x ≡ b ++ y
    → (a ≡ b) × (x ≡ y) × (values_in run ≡ values_in other)
one_body width (repeated m v) (repeated n w) a b x y number first second whole =
    let same = same_front a b x y (first.0 ∙ sym second.0) whole in
    let copies : m ≡ n = omega arith in
    let value : v ≡ w = sym first.1 ∙ ap (number_of 256) same.0 ∙ second.1 in
    (same.0, same.1, ap (λ n. replicate n v) copies ∙ ap (replicate n) value)
one_body width (repeated m v) (packed ws) a b x y number first second whole = absurd (omega arith)
one_body width (packed vs) (repeated n w) a b x y number first second whole = absurd (omega arith)
one_body width (packed vs) (packed ws) a b x y number first second whole =
    let count : length vs ≡ length ws = omega (arith, first.0, second.0) in
    let bits : width * length vs ≡ width * length ws = ap (λ n. width * n) count in
    let len : length a ≡ length b = omega (arith, first.1.bits, second.1.bits) in
    let same = same_front a b x y len whole in
    (same.0, same.1, same_digits (2 ^ width) vs ws first.1.fit second.1.fit count (first.1.number ∙ ap (number_of 256) same.0 ∙ sym second.1.number))

pub record SameRun (run other : Run) (a b x y : List ℕ) : Type 0 where
  pub front : a ≡ b
  pub rest : x ≡ y
  pub values : values_in run ≡ values_in other

pub one_run : (width : ℕ) (run other : Run) (a b x y : List ℕ) → IsRun width run a → IsRun width other b → a ++ x ≡ b ++ y → SameRun run other a b x y
one_run width run other a b x y first second whole =
    let apart : first.header ++ (first.body ++ x) ≡ second.header ++ (second.body ++ y) =
    sym (ap (λ front. front ++ x) first.whole ∙ append_assoc first.header first.body x)
    ∙ whole ∙ (ap (λ front. front ++ y) second.whole ∙ append_assoc second.header second.body y) in
    let head = one_varint first.header second.header (first.body ++ x) (second.body ++ y) (header_of run) (header_of other) first.number second.number apart in
    let body = one_body width run other first.body second.body x y head.0 first.values second.values head.1 in
    record {
      front = append_cancel_right a b y (ap (λ rest. a ++ rest) (sym body.1) ∙ whole);
      rest = body.1;
      values = body.2;
    }

-- bytes that hold the first values of runs, whatever follows them, hold no others
runs_again : (width count : ℕ) (runs others : List Run) (a b x y : List ℕ) → AreRuns width runs a → AreRuns width others b
    → AreNeeded count runs → AreNeeded count others → a ++ x ≡ b ++ y → (a ≡ b) × (flat_map values_in runs ≡ flat_map values_in others)
runs_again width count [] [] a b x y first second few enough whole = (first ∙ sym second, refl)
runs_again width count [] (other ∷ others) a b x y first second few enough whole = absurd (omega arith)
runs_again width count (run ∷ runs) [] a b x y first second few enough whole = absurd (omega arith)
runs_again width count (run ∷ runs) (other ∷ others) a b x y first second few enough whole =
    let apart : first.0 ++ (first.1 ++ x) ≡ second.0 ++ (second.1 ++ y) =
    sym (ap (λ front. front ++ x) first.2 ∙ append_assoc first.0 first.1 x)
    ∙ whole ∙ (ap (λ front. front ++ y) second.2 ∙ append_assoc second.0 second.1 y) in
    let head = one_run width run other first.0 second.0 (first.1 ++ x) (second.1 ++ y) first.3 second.3 apart in
    let left : AreNeeded (count - length (values_in run)) others = subst (λ values. AreNeeded (count - length values) others) (sym head.values) enough.1 in
    let tail = runs_again width (count - length (values_in run)) runs others first.1 second.1 x y first.4 second.4 few.1 left head.rest in (
      first.2 ∙ ap (λ front. front ++ first.1) head.front ∙ ap (λ rest. second.0 ++ rest) tail.0 ∙ sym second.2,
      ap (λ values. values ++ flat_map values_in runs) head.values ∙ ap (λ values. values_in other ++ values) tail.1,
    )

pub first_again : (width count : ℕ) (values others a b x y : List ℕ) → AreFirst width count values a → AreFirst width count others b → a ++ x ≡ b ++ y
    → (a ≡ b) × (values ≡ others)
first_again width count values others a b x y first second whole =
    let same = runs_again width count first.runs second.runs a b x y first.spelled second.spelled first.needed second.needed whole in
    (same.0, first.first ∙ ap (take count) same.1 ∙ sym second.first)

-- a run that begins with the bytes is no longer than they are
begun_again : (width : ℕ) (run : Run) (bytes front more : List ℕ) → BeginRun width bytes → IsRun width run front → bytes ≡ front ++ more → ⊥
begun_again width run bytes front more begun is whole =
    let apart : (bytes ++ begun.missing) ++ [] ≡ front ++ (more ++ begun.missing) =
    append-nil (bytes ++ begun.missing) ∙ ap (λ front. front ++ begun.missing) whole ∙ append_assoc front more begun.missing in
    let same = one_run width begun.run run (bytes ++ begun.missing) front [] (more ++ begun.missing) begun.begun is apart in
    let none : length (more ++ begun.missing) ≡ 0 = ap length (sym same.rest) in
    omega (arith, none, length-append more begun.missing, begun.some)

short_again : (width count : ℕ) (runs others : List Run) (front rest b y : List ℕ) → AreRuns width runs front → length (flat_map values_in runs) < count → BeginRun width rest
    → AreRuns width others b → AreNeeded count others → front ++ rest ≡ b ++ y → ⊥
short_again width count runs [] front rest b y first fewer begun second enough whole = omega arith
short_again width count [] (other ∷ others) front rest b y first fewer begun second enough whole =
    let apart : rest ≡ second.0 ++ (second.1 ++ y) =
    ap (λ front. front ++ rest) (sym first) ∙ whole ∙ (ap (λ front. front ++ y) second.2 ∙ append_assoc second.0 second.1 y) in
    begun_again width other rest second.0 (second.1 ++ y) begun second.3 apart
short_again width count (run ∷ runs) (other ∷ others) front rest b y first fewer begun second enough whole =
    let apart : first.0 ++ (first.1 ++ rest) ≡ second.0 ++ (second.1 ++ y) =
    sym (ap (λ front. front ++ rest) first.2 ∙ append_assoc first.0 first.1 rest)
    ∙ whole ∙ (ap (λ front. front ++ y) second.2 ∙ append_assoc second.0 second.1 y) in
    let head = one_run width run other first.0 second.0 (first.1 ++ rest) (second.1 ++ y) first.3 second.3 apart in
    let left : AreNeeded (count - length (values_in run)) others = subst (λ values. AreNeeded (count - length values) others) (sym head.values) enough.1 in
    let less : length (flat_map values_in runs) < count - length (values_in run) = omega (arith, fewer, length-append (values_in run) (flat_map values_in runs)) in
    short_again width (count - length (values_in run)) runs others first.1 rest second.1 y first.4 less begun second.4 left head.rest

-- bytes that end short hold no first values, whatever follows those
pub short_has_none : (width count : ℕ) (values bytes b y : List ℕ) → EndShort width count bytes → AreFirst width count values b → bytes ≡ b ++ y → ⊥
short_has_none width count values bytes b y short first whole =
    short_again width count short.runs first.runs short.front short.rest b y short.spelled short.fewer short.begun first.spelled first.needed (sym short.whole ∙ whole)

enough_values : (count : ℕ) (runs : List Run) → AreNeeded count runs → count ≤ length (flat_map values_in runs)
enough_values count [] needed = omega (arith, needed)
enough_values count (run ∷ runs) needed =
    omega (arith, enough_values (count - length (values_in run)) runs needed.1, length-append (values_in run) (flat_map values_in runs))

-- the first values are as many as are wanted
pub first_length : (width count : ℕ) (values bytes : List ℕ) → AreFirst width count values bytes → length values ≡ count
first_length width count values bytes first =
    ap length first.first ∙ length-take-le count (flat_map values_in first.runs) (enough_values count first.runs first.needed)
