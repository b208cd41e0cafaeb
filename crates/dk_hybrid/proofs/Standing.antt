-- A run of the code is the run that its bytes are.
use Rattle.std.proofs.Common.{◌≡◌, ◌≢◌, ℕ, zero, suc, ◌+◌, ◌-◌, ◌*◌, ◌/◌, ◌%◌, ◌^◌, ◌<◌, ◌≤◌, ◌==◌, min, Bool, true, false, cond, List, [], ◌∷◌, ◌++◌, length, take, drop, replicate, Option, Some, None, Result, Ok, Err, MatchOption, ◌⊎◌, inl, inr, refl, sym, ap, subst, ◌∙◌, arith}
use Rattle.std.proofs.Math.Nat.{mul-zero, mul-le-mul_right, mul-le-mul_left}
use Rattle.std.proofs.lemmas.Bool.{cases_lt, eqb-true, eqb-false, ne_eqb}
use Rattle.std.proofs.lemmas.List.{append_assoc, take-append-drop, length-take-le, take-replicate, take_all, drop_at}
use Rattle.std.proofs.lemmas.List.Elements.{All-drop, All-take, All-same}
use Rattle.std.specs.Prelude.{OnOk}
use Rattle.dk_grammar.specs.Varint.{IsVarint, varint_at}
use Rattle.dk_grammar.specs.Digits.{number_of, digits_of}
use Rattle.dk_grammar.specs.Runs.{repeated, packed, bytes_for, BeginRun}
use Rattle.dk_grammar.proofs.Digits.{length-digits_of, take-digits_of, digits_of-one}
use Rattle.dk_grammar.proofs.Bodies.{AreBytes, grouped, repeated_run, packed_run, repeated_begun, packed_begun, number_begun, varint_taken}
use Rattle.dk_hybrid.specs.Headers.{capped, kept_header, BeginHeader}
use Rattle.dk_hybrid.specs.Runs.{kept_values, HasWholeGroups, KeepsRun, KeepsValue, KeepsGroups}
use Rattle.dk_hybrid.specs.declared.header.Header.{Header}
use Rattle.dk_hybrid.specs.declared.header.Header.TheVariants.{Copies, Groups}
use Rattle.dk_hybrid.specs.declared.run.Run.{Run}

-- the first so many digits of fewer or more
pub some_digits : (base most many n count : ℕ) → count ≡ min (min (many * 8) (2 ^ 64 - 1)) most → most < 2 ^ 64 → digits_of base count n ≡ take most (digits_of base (8 * many) n)
some_digits base most many n count is fits =
    elim (cases_lt most (8 * many)) [
      | inl less ↦ (
          let all : count ≡ most = omega arith in
          ap (λ k. digits_of base k n) all ∙ sym (take-digits_of base most (8 * many) n (omega arith)))
      | inr more ↦ (
          let all : count ≡ 8 * many = omega arith in
          ap (λ k. digits_of base k n) all ∙ sym (take_all most (digits_of base (8 * many) n) (omega (arith, length-digits_of base (8 * many) n))))
    ]

-- no more values are wanted than a capped number of copies has
take_capped : (count copies value : ℕ) → count < 2 ^ 64 → take count (replicate copies value) ≡ take count (replicate (capped copies) value)
take_capped count copies value fits =
    elim (cases_lt copies (2 ^ 64)) [
      | inl less ↦ (
          let same : capped copies ≡ copies = omega arith in
          ap (λ n. take count (replicate n value)) (sym same))
      | inr more ↦ (
          let enough : count ≤ capped copies = omega arith in
          take-replicate count copies value (omega arith) ∙ sym (take-replicate count (capped copies) value enough))
    ]

record IsCopies (number copies : ℕ) : Type 0 where
  even : number ≡ 2 * (number / 2)
  kept : copies ≡ capped (number / 2)

record IsGroups (number groups : ℕ) : Type 0 where
  odd : number ≡ 2 * (number / 2) + 1
  kept : groups ≡ capped (number / 2)

decided : (b : Bool) → (b ≡ true) ⊎ (b ≡ false)
decided true = inl refl
decided false = inr refl

copies_header : (number copies : ℕ) → Copies copies ≡ kept_header number → IsCopies number copies
copies_header number copies is =
    elim (decided (number % 2 == 0)) [
      | inl even ↦ (
          let same : Copies copies ≡ Copies (capped (number / 2)) = is ∙ ap (λ b. cond b (Copies (capped (number / 2))) (Groups (capped (number / 2)))) even in
          let half : number % 2 ≡ 0 = eqb-true (number % 2) 0 even in
          record { even = omega (arith, half); kept = cc })
      | inr odd ↦ (
          let never : Copies copies ≡ Groups (capped (number / 2)) = is ∙ ap (λ b. cond b (Copies (capped (number / 2))) (Groups (capped (number / 2)))) odd in
          cc)
    ]

groups_header : (number groups : ℕ) → Groups groups ≡ kept_header number → IsGroups number groups
groups_header number groups is =
    elim (decided (number % 2 == 0)) [
      | inl even ↦ (
          let never : Groups groups ≡ Copies (capped (number / 2)) = is ∙ ap (λ b. cond b (Copies (capped (number / 2))) (Groups (capped (number / 2)))) even in
          cc)
      | inr odd ↦ (
          let same : Groups groups ≡ Groups (capped (number / 2)) = is ∙ ap (λ b. cond b (Copies (capped (number / 2))) (Groups (capped (number / 2)))) odd in
          let half : number % 2 ≢ 0 = eqb-false (number % 2) 0 odd in
          record { odd = omega (arith, half); kept = cc })
    ]

-- the run is copies of a value
pub copies_stand : {X : Type 0} (run : X → Run) (behind : X → List ℕ) (width copies : ℕ) (bytes rest : List ℕ) (header : Header) (result : Option X)
    → BeginHeader bytes header rest → header ≡ Copies copies
    → MatchOption result (length rest < bytes_for width) (λ x. KeepsValue width copies rest (run x) (behind x))
    → MatchOption result (BeginRun width bytes) (λ x. KeepsRun width bytes (run x) (behind x))
copies_stand run behind width copies bytes rest header None begun is short =
    let taken = varint_taken bytes begun.number rest begun.read in
    let number = copies_header begun.number copies (sym is ∙ begun.kept_as) in
    subst (BeginRun width) (sym taken.whole) (repeated_begun width (begun.number / 2) taken.front rest (subst (IsVarint taken.front) number.even taken.spells) short)
copies_stand run behind width copies bytes rest header (Some x) begun is value =
    let taken = varint_taken bytes begun.number rest begun.read in
    let number = copies_header begun.number copies (sym is ∙ begun.kept_as) in
    let body = take (bytes_for width) rest in
    record {
      meant = repeated (begun.number / 2) (number_of 256 body);
      front = taken.front ++ body;
      whole = taken.whole ∙ ap (λ xs. taken.front ++ xs) (sym (take-append-drop (bytes_for width) rest) ∙ ap (λ xs. body ++ xs) (sym value.behind)) ∙ sym (append_assoc taken.front body (behind x));
      is = repeated_run width (begun.number / 2) taken.front body (subst (IsVarint taken.front) number.even taken.spells) (length-take-le (bytes_for width) rest value.room);
      kept = subst (HasWholeGroups width) (sym value.value) tt;
      same = λ count fits. take_capped count (begun.number / 2) (number_of 256 body) fits
          ∙ ap (λ n. take count (replicate n (number_of 256 body))) (sym number.kept)
          ∙ ap (λ r. take count (kept_values width r)) (sym value.value);
    }

bytes_of_rest : (front bytes rest : List ℕ) → bytes ≡ front ++ rest → AreBytes bytes → AreBytes rest
bytes_of_rest front bytes rest whole bytes_fit =
    All-same (λ byte. byte < 256) rest (drop (length front) bytes)
    (sym (drop_at front rest (length front) refl) ∙ ap (drop (length front)) (sym whole))
    (All-drop (λ byte. byte < 256) (length front) bytes bytes_fit)

-- no groups are lost where they stand whole
same_groups : (width groups number len : ℕ) → groups ≡ capped number → groups * width ≤ len → len < 2 ^ 64 - 1 → number * width ≡ groups * width
same_groups zero groups number len kept room short = mul-zero number ∙ sym (mul-zero groups)
same_groups (suc width) groups number len kept room short =
    let least : groups * 1 ≤ groups * suc width = mul-le-mul_left groups (omega arith) in
    let all : number ≡ groups = omega arith in
    ap (λ n. n * suc width) all

all_groups : (width groups number len : ℕ) → 0 < width → groups ≡ capped number → groups * width ≤ len → len < 2 ^ 64 - 1 → groups ≡ number
all_groups width groups number len some kept room short =
    let least : groups * 1 ≤ groups * width = mul-le-mul_left groups some in
    omega arith

-- the values that groups show are those that are meant, as far as any are wanted
same_values : (width groups number : ℕ) (body : List ℕ) (run : Run) (count : ℕ) → count < 2 ^ 64 → groups ≡ capped number → number * width ≡ groups * width → length body ≡ groups * width
    → (0 < width → groups ≡ number)
    → kept_values width run ≡ cond (width == 0) (replicate (min (8 * groups) (2 ^ 64 - 1)) 0) (digits_of (2 ^ width) (8 * groups) (number_of 256 body))
    → take count (grouped width number body) ≡ take count (kept_values width run)
same_values zero groups number [] run count fits kept product len whole is =
    let all : min (8 * groups) (2 ^ 64 - 1) ≡ capped (8 * number) = omega arith in
    ap (take count) (digits_of-one (8 * number) 0 refl)
    ∙ take_capped count (8 * number) 0 fits
    ∙ ap (λ n. take count (replicate n 0)) (sym all)
    ∙ ap (take count) (sym is)
same_values zero groups number (b ∷ bs) run count fits kept product len whole is = absurd (omega (arith, len, mul-zero groups))
same_values (suc width) groups number body run count fits kept product len whole is =
    let some : suc width == 0 ≡ false = ne_eqb (suc width) 0 (λ h. omega (arith, h)) in
    let values : kept_values (suc width) run ≡ digits_of (2 ^ suc width) (8 * groups) (number_of 256 body) =
    is ∙ ap (λ b. cond b (replicate (min (8 * groups) (2 ^ 64 - 1)) 0) (digits_of (2 ^ suc width) (8 * groups) (number_of 256 body))) some in
    ap (λ n. take count (digits_of (2 ^ suc width) (8 * n) (number_of 256 body))) (sym (whole (omega arith))) ∙ ap (take count) (sym values)

-- the run is groups of eight values
pub groups_stand : {X : Type 0} (run : X → Run) (behind : X → List ℕ) (width groups : ℕ) (bytes rest : List ℕ) (header : Header) (result : Option X)
    → BeginHeader bytes header rest → header ≡ Groups groups → AreBytes bytes → length rest < 2 ^ 64 - 1
    → MatchOption result (length rest < groups * width) (λ x. KeepsGroups width groups rest (run x) (behind x))
    → MatchOption result (BeginRun width bytes) (λ x. KeepsRun width bytes (run x) (behind x))
groups_stand run behind width groups bytes rest header None begun is fit room short =
    let taken = varint_taken bytes begun.number rest begun.read in
    let number = groups_header begun.number groups (sym is ∙ begun.kept_as) in
    let less : groups * width ≤ begun.number / 2 * width = mul-le-mul_right width (omega (arith, number.kept)) in
    let wanted : length rest < begun.number / 2 * width = omega (arith, less, short) in
    subst (BeginRun width) (sym taken.whole)
    (packed_begun width (begun.number / 2) taken.front rest (subst (IsVarint taken.front) number.odd taken.spells) (bytes_of_rest taken.front bytes rest taken.whole fit) wanted)
groups_stand run behind width groups bytes rest header (Some x) begun is fit room kept =
    let taken = varint_taken bytes begun.number rest begun.read in
    let number = groups_header begun.number groups (sym is ∙ begun.kept_as) in
    let half : ℕ = begun.number / 2 in
    let body = take (groups * width) rest in
    let product : half * width ≡ groups * width = same_groups width groups half (length rest) number.kept kept.room room in
    let len : length body ≡ groups * width = length-take-le (groups * width) rest kept.room in
    let rest_fit = bytes_of_rest taken.front bytes rest taken.whole fit in
    record {
      meant = packed (grouped width half body);
      front = taken.front ++ body;
      whole = taken.whole ∙ ap (λ xs. taken.front ++ xs) (sym (take-append-drop (groups * width) rest) ∙ ap (λ xs. body ++ xs) (sym kept.behind)) ∙ sym (append_assoc taken.front body (behind x));
      is = packed_run width half taken.front body (subst (IsVarint taken.front) number.odd taken.spells) (All-take (λ byte. byte < 256) (groups * width) rest rest_fit) (len ∙ sym product);
      kept = kept.kept;
      same = λ count fits. same_values width groups half body (run x) count fits number.kept product len (λ some. all_groups width groups half (length rest) some number.kept kept.room room) kept.values;
    }

pub on_ok_same : {X E : Type 0} (result : Result X E) (new found meant : List ℕ) → OnOk result (new ≡ found) → found ≡ meant → OnOk result (new ≡ meant)
on_ok_same (Ok x) new found meant is same = is ∙ same
on_ok_same (Err e) new found meant is same = tt

pub number_stands : {X : Type 0} (run : X → Run) (behind : X → List ℕ) (width : ℕ) (bytes : List ℕ) (result : Option X) → result ≡ None → varint_at bytes ≡ None
    → MatchOption result (BeginRun width bytes) (λ x. KeepsRun width bytes (run x) (behind x))
number_stands run behind width bytes None is none = number_begun width bytes none
number_stands run behind width bytes (Some x) is none = cc
