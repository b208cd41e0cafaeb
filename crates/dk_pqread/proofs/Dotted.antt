-- Names joined by full stops.
use Rattle.std.proofs.Common.{◌≡◌, ℕ, zero, suc, ◌+◌, ◌<◌, ◌≤◌, List, [], ◌∷◌, ◌++◌, length, get_or, drop, string_bytes, String, Global, sym, ap, ◌∙◌, append_assoc, add-one, arith}
use Rattle.std.proofs.lemmas.List.{append-nil, drop_all}
use Rattle.std.specs.List.{join_with_byte}
use Rattle.dk_pqread.specs.PlanView.{path_of}

-- each name behind a full stop
abbrev pub tails : List (List ℕ) → List ℕ
tails [] = []
tails (x ∷ xs) = (46 ∷ x) ++ tails xs

pub joined_tails : (x : List ℕ) (xs : List (List ℕ)) → join_with_byte 46 (x ∷ xs) ≡ x ++ tails xs
joined_tails x [] = sym (append-nil x)
joined_tails x (y ∷ ys) = ap (λ more. x ++ (46 ∷ more)) (joined_tails y ys)

path_of-drop_suc : (names : List (String Global)) (i : ℕ) (n : String Global) → i < length names → n ≡ get_or names i n → path_of (drop i names) ≡ string_bytes n ∷ path_of (drop (suc i) names)
path_of-drop_suc [] i n h e = absurd (omega arith)
path_of-drop_suc (m ∷ ns) zero n h e = ap (λ x. string_bytes x ∷ path_of ns) (sym e)
path_of-drop_suc (m ∷ ns) (suc i) n h e = path_of-drop_suc ns i n (omega arith) e

pub path_of-drop : (names : List (String Global)) (i : ℕ) (n : String Global) → i < length names → n ≡ get_or names i n → path_of (drop i names) ≡ string_bytes n ∷ path_of (drop (i + 1) names)
path_of-drop names i n h e = rw add-one (path_of-drop_suc names i n h e)

-- one name more
pub name_more : (names : List (String Global)) (i : ℕ) (n : String Global) (column dot now whole : List ℕ) → i < length names → n ≡ get_or names i n
    → dot ≡ column ++ 46 ∷ [] → now ≡ dot ++ string_bytes n → column ++ tails (path_of (drop i names)) ≡ whole → now ++ tails (path_of (drop (i + 1) names)) ≡ whole
name_more names i n column dot now whole h is stop name left =
    let rest = tails (path_of (drop (i + 1) names)) in
    ap (λ x. x ++ rest) (name ∙ ap (λ x. x ++ string_bytes n) stop) ∙ append_assoc (column ++ 46 ∷ []) (string_bytes n) rest ∙ append_assoc column (46 ∷ []) (string_bytes n ++ rest)
    ∙ sym (ap (λ path. column ++ tails path) (path_of-drop names i n h is)) ∙ left

-- the first name, before the others
pub name_first : (path rest : List (String Global)) (first : String Global) (column : List ℕ) → path ≡ first ∷ rest → column ≡ string_bytes first
    → column ++ tails (path_of rest) ≡ join_with_byte 46 (path_of path)
name_first path rest first column is same =
    ap (λ x. x ++ tails (path_of rest)) same ∙ sym (joined_tails (string_bytes first) (path_of rest)) ∙ ap (λ p. join_with_byte 46 (path_of p)) (sym is)

pub all_named : (rest : List (String Global)) (i : ℕ) (column whole : List ℕ) → length rest ≤ i → column ++ tails (path_of (drop i rest)) ≡ whole → column ≡ whole
all_named rest i column whole h left =
    let e : column ++ [] ≡ whole = rw (drop_all i rest h) at left in
    sym (append-nil column) ∙ e
