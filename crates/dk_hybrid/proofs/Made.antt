-- What is written is runs of the values.
use Rattle.std.proofs.Common.{◌≡◌, ℕ, zero, suc, ◌+◌, ◌-◌, ◌*◌, ◌/◌, ◌^◌, ◌<◌, ◌≤◌, List, [], ◌∷◌, ◌++◌, length, take, drop, replicate, Result, Ok, Err, refl, sym, ap, subst, ◌∙◌, arith, inl, inr}
use Rattle.std.proofs.Math.Nat.{mul-le-mul_left, zero-add, mul-zero, add-zero}
use Rattle.std.proofs.Math.Pow.{pow_mono}
use Rattle.std.proofs.lemmas.Bool.{cases_lt}
use Rattle.std.proofs.lemmas.Nat.{pow_pos}
use Rattle.std.proofs.lemmas.List.{append_assoc, append-nil, length-append, length-replicate, length-drop, length-take-le, nil_from_length, take_at, take_all, take-append-drop}
use Rattle.std.proofs.lemmas.List.Elements.{All-append, All-replicate, All-same, All-drop}
use Rattle.std.specs.Prelude.{OnOk}
use Rattle.std.specs.List.{All}
use Rattle.dk_grammar.specs.Varint.{IsVarint}
use Rattle.dk_grammar.specs.Digits.{number_of, digits_of}
use Rattle.dk_grammar.specs.Runs.{repeated, packed, values_in, bytes_for, AreFirst}
use Rattle.dk_grammar.proofs.Digits.{length-digits_of, number_of-digits_of, number_of-below, number_of-append}
use Rattle.dk_grammar.proofs.Bodies.{pow-mul, same_room, turned_bits}
use Rattle.dk_hybrid.proofs.Progress.{one_more}
use Rattle.dk_hybrid.specs.Appended.{AppendsNumber, AppendsRun, TakesRun, padding_of}

-- a value of so many bits is below the power of its bytes
in_bytes : (width value : ℕ) → value < 2 ^ width → value < 256 ^ bytes_for width
in_bytes width value small =
    let more : width ≤ 8 * bytes_for width = omega arith in
    let up : 2 ^ width ≤ 2 ^ (8 * bytes_for width) = pow_mono more in
    let power : 256 ^ bytes_for width ≡ 2 ^ (8 * bytes_for width) = pow-mul 2 8 (bytes_for width) in
    omega (arith, small, up, power)

pub copies_made : (width value copies : ℕ) (old between new : List ℕ) → width ≤ 32 → value < 2 ^ width → 8 ≤ copies → AppendsNumber (2 * copies) old between
    → new ≡ between ++ digits_of 256 (bytes_for width) (number_of (2 ^ width) (value ∷ [])) → AppendsRun width (replicate copies value) [] old new
copies_made width value copies old between new narrow small many header added =
    let one : number_of (2 ^ width) (value ∷ []) ≡ value = ap (λ n. value + n) (mul-zero (2 ^ width)) ∙ add-zero value in
    let body : List ℕ = digits_of 256 (bytes_for width) (number_of (2 ^ width) (value ∷ [])) in
    let len : length body ≡ bytes_for width = length-digits_of 256 (bytes_for width) (number_of (2 ^ width) (value ∷ [])) in
    let number : number_of 256 body ≡ value =
    ap (λ n. number_of 256 (digits_of 256 (bytes_for width) n)) one ∙ number_of-digits_of 256 (bytes_for width) value (omega arith) (in_bytes width value small) in
    record {
      run = repeated copies value;
      bytes = header.bytes ++ body;
      added = added ∙ ap (λ xs. xs ++ body) header.added ∙ append_assoc old header.bytes body;
      is = record { header = header.bytes; body = body; whole = refl; number = header.spells; values = (len, number) };
      holds = sym (append-nil (replicate copies value));
      size =
          let values : length (replicate copies value ++ []) ≡ copies = ap length (append-nil (replicate copies value)) ∙ length-replicate copies value in
          omega (arith, header.size, length-append header.bytes body, len, values);
    }

zeros_add_nothing : (base count : ℕ) → number_of base (replicate count 0) ≡ 0
zeros_add_nothing base zero = refl
zeros_add_nothing base (suc count) = zero-add (base * number_of base (replicate count 0)) ∙ ap (λ n. base * n) (zeros_add_nothing base count) ∙ mul-zero base

zeros_behind : (base : ℕ) (values : List ℕ) (count : ℕ) → number_of base (values ++ replicate count 0) ≡ number_of base values
zeros_behind base values count =
    number_of-append base values (replicate count 0)
    ∙ ap (λ n. number_of base values + base ^ length values * n) (zeros_add_nothing base count)
    ∙ ap (λ n. number_of base values + n) (mul-zero (base ^ length values))
    ∙ add-zero (number_of base values)

pub groups_made : (width groups : ℕ) (values old between new : List ℕ) → width ≤ 32 → 0 < length values → All (λ value. value < 2 ^ width) values
    → groups ≡ (length values + 7) / 8 → AppendsNumber (2 * groups + 1) old between
    → new ≡ between ++ digits_of 256 (groups * width) (number_of (2 ^ width) values) → AppendsRun width values (replicate (padding_of (length values)) 0) old new
groups_made width groups values old between new narrow some fit is header added =
    let padding : List ℕ = replicate (padding_of (length values)) 0 in
    let body : List ℕ = digits_of 256 (groups * width) (number_of (2 ^ width) values) in
    let count : length (values ++ padding) ≡ 8 * groups = omega (arith, length-append values padding, length-replicate {A = ℕ} (padding_of (length values)) 0, is) in
    let len : length body ≡ groups * width = length-digits_of 256 (groups * width) (number_of (2 ^ width) values) in
    let all_fit : All (λ value. value < 2 ^ width) (values ++ padding) =
    All-append (λ value. value < 2 ^ width) values padding fit (All-replicate (λ value. value < 2 ^ width) (padding_of (length values)) 0 (pow_pos width)) in
    let same : number_of (2 ^ width) (values ++ padding) ≡ number_of (2 ^ width) values = zeros_behind (2 ^ width) values (padding_of (length values)) in
    let below : number_of (2 ^ width) (values ++ padding) < (2 ^ width) ^ length (values ++ padding) = number_of-below (2 ^ width) (values ++ padding) all_fit in
    let power : (2 ^ width) ^ length (values ++ padding) ≡ 256 ^ (groups * width) = ap (λ n. (2 ^ width) ^ n) count ∙ sym (same_room width groups) in
    let room : number_of (2 ^ width) values < 256 ^ (groups * width) = omega (arith, below, power, same) in
    record {
      run = packed (values ++ padding);
      bytes = header.bytes ++ body;
      added = added ∙ ap (λ xs. xs ++ body) header.added ∙ append_assoc old header.bytes body;
      is = record {
        header = header.bytes;
        body = body;
        whole = refl;
        number = subst (IsVarint header.bytes) (omega (arith, count)) header.spells;
        values = (omega (arith, count), record { fit = all_fit; bits = ap (λ n. width * n) count ∙ sym (turned_bits width groups) ∙ ap (λ n. 8 * n) (sym len); number = same ∙ sym (number_of-digits_of 256 (groups * width) (number_of (2 ^ width) values) (omega arith) room) });
      };
      holds = refl;
      size =
          let most : groups * width ≤ groups * 32 = mul-le-mul_left groups narrow in
          omega (arith, header.size, length-append header.bytes body, len, count, most);
    }

pub on_ok_made : {X E : Type 0} {P : Type 0} (result : Result X E) (new found : List ℕ) → (new ≡ found → P) → OnOk result (new ≡ found) → OnOk result P
on_ok_made (Ok x) new found makes is = makes is
on_ok_made (Err e) new found makes is = tt

-- How far encoding has come: whatever runs of the rest follow, all are runs of the values.
pub record Encodes (width : ℕ) (values out rest : List ℕ) : Type 0 where
  pub goes_on : (tail : List ℕ) → AreFirst width (length rest) rest tail → AreFirst width (length values) values (out ++ tail)
  pub share : 0 < length rest → length out + 5 * length rest ≤ 5 * length values
  pub most : length out ≤ 40 + 5 * length values
  pub fit : All (λ value. value < 2 ^ width) rest

rest_left : (count padding rest held after : ℕ) → (count < rest → padding ≡ 0) → held ≡ count + padding → after ≡ rest - count → rest - held ≡ after
rest_left count padding rest held after last is left =
    elim (cases_lt count rest) [
      | inl more ↦ (let none : padding ≡ 0 = last more in omega arith)
      | inr all ↦ omega arith
    ]

first_held : (count : ℕ) (rest padding : List ℕ) → count ≤ length rest → (count < length rest → length padding ≡ 0) → take count rest ≡ take (length rest) (take count rest ++ padding)
first_held count rest padding within last =
    let few : length (take count rest) ≡ count = length-take-le count rest within in
    elim (cases_lt count (length rest)) [
      | inl more ↦ (
          let none : length padding ≡ 0 = last more in
          sym (take_all (length rest) (take count rest ++ padding) (omega (arith, length-append (take count rest) padding, few))
          ∙ ap (λ xs. take count rest ++ xs) (nil_from_length padding none) ∙ append-nil (take count rest)))
      | inr all ↦ sym (take_at (take count rest) padding (length rest) (omega arith))
    ]

pub run_encoded : (width count : ℕ) (values out rest new after : List ℕ) → 0 < length rest → TakesRun width rest count out new → after ≡ drop count rest
    → Encodes width values out rest → Encodes width values new after
run_encoded width count values out rest new after some takes behind before =
    let run = takes.appends in
    let taken : List ℕ = take count rest in
    let few : length taken ≡ count = length-take-le count rest takes.within in
    let held : length (values_in run.run) ≡ count + length takes.padding = ap length run.holds ∙ length-append taken takes.padding ∙ ap (λ n. n + length takes.padding) few in
    let left : length after ≡ length rest - count = ap length behind ∙ length-drop count rest in
    let next : length rest - length (values_in run.run) ≡ length after = rest_left count (length takes.padding) (length rest) (length (values_in run.run)) (length after) takes.last held left in
    let first : taken ≡ take (length rest) (values_in run.run) = first_held count rest takes.padding takes.within takes.last ∙ ap (take (length rest)) (sym run.holds) in
    let size : length run.bytes ≤ 5 * (count + length takes.padding) = omega (arith, run.size, length-append taken takes.padding, few) in
    let whole : taken ++ after ≡ rest = ap (λ xs. taken ++ xs) behind ∙ take-append-drop count rest in
    let len : length new ≡ length out + length run.bytes = ap length run.added ∙ length-append out run.bytes in
    record {
      goes_on = λ tail is.
          let here : AreFirst width (length rest) (taken ++ after) (run.bytes ++ tail) =
          one_more width (length rest) run.run run.bytes taken after tail some run.is first (subst (λ n. AreFirst width n after tail) (sym next) is) in
          let all = before.goes_on (run.bytes ++ tail) (subst (λ xs. AreFirst width (length rest) xs (run.bytes ++ tail)) whole here) in
          subst (AreFirst width (length values) values) (sym (ap (λ xs. xs ++ tail) run.added ∙ append_assoc out run.bytes tail)) all;
      share = λ more. (let none : length takes.padding ≡ 0 = takes.last (omega (arith, left)) in omega (arith, before.share some, len, size, left));
      most = omega (arith, before.share some, len, size, takes.within, takes.short);
      fit = All-same (λ value. value < 2 ^ width) after (drop count rest) behind (All-drop (λ value. value < 2 ^ width) count rest before.fit);
    }

pub all_encoded : (width : ℕ) (values out rest : List ℕ) → length rest ≡ 0 → Encodes width values out rest → AreFirst width (length values) values out
all_encoded width values out [] none before =
    subst (AreFirst width (length values) values) (append-nil out) (before.goes_on [] (record { runs = []; spelled = refl; needed = refl; first = refl }))
all_encoded width values out (v ∷ vs) none before = absurd (omega arith)
