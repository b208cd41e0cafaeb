-- Looking at one more byte of the input.
use Rattle.std.proofs.Common.{◌≡◌, ℕ, zero, suc, length-append, ◌+◌, ◌-◌, ◌<◌, ◌≤◌, List, [], ◌∷◌, ◌++◌, length, take, get_or, slice_index_or, Option, Some, None, refl, ap, sym, subst, ◌∙◌, append_assoc, arith}
use Rattle.std.specs.Option.{option_or}
use Rattle.std.specs.Prelude.{is_some, true, false}
use Rattle.std.proofs.Math.Seq.{take-suc, take-append-add}
use Rattle.std.proofs.lemmas.List.{take-append-le}
use Rattle.dk_engine.specs.declared.limits.Limits.{Limits}
use Rattle.dk_engine.specs.declared.limits.Which.{Which}
use Rattle.dk_cli.specs.declared.scan.Scan.{Scan}
use Rattle.dk_cli.specs.Input.{passed, first_passed_from, first_passed}
use Rattle.dk_cli.specs.Seen.{HasSeen}

-- the beginning with one more byte
pub one_more : (bytes piece : List ℕ) (i byte : ℕ) → i < length piece → byte ≡ get_or piece i 0 → (bytes ++ take i piece) ++ byte ∷ [] ≡ bytes ++ take (i + 1) piece
one_more bytes piece i byte lt is =
    let up : i + 1 ≡ suc i = omega arith in
    append_assoc bytes (take i piece) (byte ∷ []) ∙ ap (λ (xs : List ℕ). bytes ++ xs) (ap (λ (b : ℕ). take i piece ++ b ∷ []) is ∙ sym (take-suc piece i 0 lt) ∙ ap (λ (n : ℕ). take n piece) (sym up))

-- what is passed from a place on, by what is passed with the next byte
pub one_step : (limits : Limits) (bytes piece : List ℕ) (i : ℕ) → i < length piece
    → first_passed_from limits (length bytes + i) (length piece - i) (bytes ++ piece)
    ≡ option_or (passed limits (bytes ++ take (i + 1) piece)) (first_passed_from limits (length bytes + (i + 1)) (length piece - (i + 1)) (bytes ++ piece))
one_step limits bytes piece i lt =
    let left : length piece - i ≡ suc (length piece - (i + 1)) = omega arith in
    let next : suc (length bytes + i) ≡ length bytes + (i + 1) = omega arith in
    rw (left, next, take-append-add bytes piece (i + 1)) refl

-- nothing is passed with the next byte
pub goes_on : (limits : Limits) (bytes piece : List ℕ) (i : ℕ) (all : Option Which) → i < length piece → passed limits (bytes ++ take (i + 1) piece) ≡ None
    → first_passed_from limits (length bytes + i) (length piece - i) (bytes ++ piece) ≡ all
    → first_passed_from limits (length bytes + (i + 1)) (length piece - (i + 1)) (bytes ++ piece) ≡ all
goes_on limits bytes piece i all lt none is =
    let rest : Option Which = first_passed_from limits (length bytes + (i + 1)) (length piece - (i + 1)) (bytes ++ piece) in
    ap (λ (o : Option Which). option_or o rest) (sym none) ∙ sym (one_step limits bytes piece i lt) ∙ is

some_first : (now later : Option Which) → is_some now ≡ true → option_or now later ≡ now
some_first None later some = cc
some_first (Some which) later some = refl

-- a limit is passed with the next byte
pub stops : (limits : Limits) (bytes piece : List ℕ) (i : ℕ) (all : Option Which) → i < length piece → is_some (passed limits (bytes ++ take (i + 1) piece)) ≡ true
    → first_passed_from limits (length bytes + i) (length piece - i) (bytes ++ piece) ≡ all
    → passed limits (bytes ++ take (i + 1) piece) ≡ all
stops limits bytes piece i all lt some is =
    sym (some_first (passed limits (bytes ++ take (i + 1) piece)) (first_passed_from limits (length bytes + (i + 1)) (length piece - (i + 1)) (bytes ++ piece)) some) ∙ sym (one_step limits bytes piece i lt) ∙ is

-- what was seen with the next byte
pub seen_more : (scan : Scan) (bytes piece : List ℕ) (i : ℕ) → i < length piece → HasSeen scan ((bytes ++ take i piece) ++ slice_index_or piece i 0 ∷ []) → HasSeen scan (bytes ++ take (i + 1) piece)
seen_more scan bytes piece i lt seen = subst (HasSeen scan) (one_more bytes piece i (slice_index_or piece i 0) lt refl) seen

pub none_of : (o : Option Which) → is_some o ≡ false → o ≡ None
none_of None none = refl
none_of (Some which) none = cc

-- ---- pieces of the input behind one another

or_again : (a b c : Option Which) → option_or (option_or a b) c ≡ option_or a (option_or b c)
or_again None b c = refl
or_again (Some which) b c = refl

-- what is passed with so many more bytes, and then with more
in_two : (limits : Limits) (bytes : List ℕ) (size count more : ℕ)
    → first_passed_from limits size (count + more) bytes ≡ option_or (first_passed_from limits size count bytes) (first_passed_from limits (size + count) more bytes)
in_two limits bytes size zero more =
    let none : zero + more ≡ more = omega arith in
    let still : size + zero ≡ size = omega arith in
    rw (none, still) refl
in_two limits bytes size (suc count) more =
    let up : suc size + count ≡ size + suc count = omega arith in
    let one : suc count + more ≡ suc (count + more) = omega arith in
    ap (λ (n : ℕ). first_passed_from limits size n bytes) one
    ∙ ap (option_or (passed limits (take (suc size) bytes))) (in_two limits bytes (suc size) count more ∙ ap (λ (n : ℕ). option_or (first_passed_from limits (suc size) count bytes) (first_passed_from limits n more bytes)) up)
    ∙ sym (or_again (passed limits (take (suc size) bytes)) (first_passed_from limits (suc size) count bytes) (first_passed_from limits (size + suc count) more bytes))

-- what follows changes nothing
in_front : (limits : Limits) (bytes rest : List ℕ) (size count : ℕ) → size + count ≤ length bytes → first_passed_from limits size count (bytes ++ rest) ≡ first_passed_from limits size count bytes
in_front limits bytes rest size zero le = refl
in_front limits bytes rest size (suc count) le =
    rw (take-append-le (suc size) bytes rest (omega arith), in_front limits bytes rest (suc size) count (omega arith)) refl

-- the limit that bytes pass first, by those in front
pub passed_behind : (limits : Limits) (bytes piece : List ℕ)
    → first_passed limits (bytes ++ piece) ≡ option_or (first_passed limits bytes) (first_passed_from limits (length bytes) (length piece) (bytes ++ piece))
passed_behind limits bytes piece =
    ap (λ (n : ℕ). first_passed_from limits 0 n (bytes ++ piece)) (length-append bytes piece)
    ∙ in_two limits (bytes ++ piece) 0 (length bytes) (length piece)
    ∙ ap (λ (n : ℕ). option_or (first_passed_from limits 0 (length bytes) (bytes ++ piece)) (first_passed_from limits n (length piece) (bytes ++ piece))) (let none : 0 + length bytes ≡ length bytes = omega arith in none)
    ∙ ap (λ (o : Option Which). option_or o (first_passed_from limits (length bytes) (length piece) (bytes ++ piece))) (in_front limits bytes piece 0 (length bytes) (omega arith))

-- no limit is passed with a piece more
pub none_behind : (limits : Limits) (bytes piece items : List ℕ) → items ≡ bytes ++ piece → first_passed limits bytes ≡ None
    → None ≡ first_passed_from limits (length bytes) (length piece) (bytes ++ piece) → first_passed limits items ≡ None
none_behind limits bytes piece items grown none here =
    ap (first_passed limits) grown ∙ passed_behind limits bytes piece ∙ ap (λ (o : Option Which). option_or o (first_passed_from limits (length bytes) (length piece) (bytes ++ piece))) none ∙ sym here

-- a limit that is passed with a piece more is the first that the whole passes
pub limit_behind : (limits : Limits) (bytes piece rest left : List ℕ) (which : Which) → left ≡ bytes ++ (piece ++ rest) → first_passed limits bytes ≡ None
    → Some which ≡ first_passed_from limits (length bytes) (length piece) (bytes ++ piece) → first_passed limits left ≡ Some which
limit_behind limits bytes piece rest left which is none here =
    let front : first_passed limits (bytes ++ piece) ≡ Some which = passed_behind limits bytes piece ∙ ap (λ (o : Option Which). option_or o (first_passed_from limits (length bytes) (length piece) (bytes ++ piece))) none ∙ sym here in
    ap (first_passed limits) (is ∙ sym (append_assoc bytes piece rest)) ∙ passed_behind limits (bytes ++ piece) rest
    ∙ ap (λ (o : Option Which). option_or o (first_passed_from limits (length (bytes ++ piece)) (length rest) ((bytes ++ piece) ++ rest))) front
