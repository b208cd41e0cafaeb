-- Laws of `joined` and `from`.
use Rattle.std.proofs.Common.{◌≡◌, ℕ, zero, suc, ◌+◌, ◌≤◌, List, [], ◌∷◌, ◌++◌, length, refl, sym, ap, ◌∙◌, arith, append_assoc, zero-add}
use Rattle.std.proofs.lemmas.List.{append-nil}
use Rattle.dk_pqmodel.specs.Datum.{Column}
use Rattle.dk_pqmodel.specs.Triples.{columns_joined}
use Rattle.dk_levels.specs.Places.{from}

pub joined-nothing : (cs : List Column) → columns_joined cs [] ≡ cs
joined-nothing [] = refl
joined-nothing (c ∷ cs) = refl

pub joined_assoc : (a b c : List Column) → columns_joined (columns_joined a b) c ≡ columns_joined a (columns_joined b c)
joined_assoc [] b c = refl
joined_assoc (x ∷ a) [] c = refl
joined_assoc (x ∷ a) (y ∷ b) [] = refl
joined_assoc (x ∷ a) (y ∷ b) (z ∷ c) = cc (append_assoc x y z, joined_assoc a b c)

pub joined-from : (place : ℕ) (a b : List Column) → columns_joined (from place a) (from place b) ≡ from place (columns_joined a b)
joined-from zero a b = refl
joined-from (suc place) a b = ap (λ t. [] ∷ t) (joined-from place a b)

-- behind the columns of a stand those of b
pub joined-behind : (a b : List Column) → columns_joined a (from (length a) b) ≡ a ++ b
joined-behind [] b = refl
joined-behind (x ∷ a) b = cc (append-nil x, joined-behind a b)

pub from-from : (place more : ℕ) (b : List Column) → from (place + more) b ≡ from place (from more b)
from-from zero more b = rw (zero-add more) refl
from-from (suc place) more b =
    let e : suc place + more ≡ suc (place + more) = omega arith in
    rw e (ap (λ t. [] ∷ t) (from-from place more b))

-- two writes one after the other
pub adds_again : (place : ℕ) (cs a b : List Column) → columns_joined (columns_joined cs (from place a)) (from place b) ≡ columns_joined cs (from place (columns_joined a b))
adds_again place cs a b = joined_assoc cs _ _ ∙ ap (columns_joined cs) (joined-from place a b)

-- columns beside one another
pub adds_beside : (place n : ℕ) (cs a b : List Column) → length a ≡ n → columns_joined (columns_joined cs (from place a)) (from (place + n) b) ≡ columns_joined cs (from place (a ++ b))
adds_beside place n cs a b e =
    joined_assoc cs _ _ ∙ ap (columns_joined cs) (ap (columns_joined (from place a)) (from-from place n b) ∙ joined-from place a (from n b)
    ∙ ap (from place) (ap (λ k. columns_joined a (from k b)) (sym e) ∙ joined-behind a b))

pub length-joined : (a b : List Column) (n : ℕ) → length b ≤ length a → length a ≡ n → length (columns_joined a b) ≡ n
length-joined [] [] n h e = e
length-joined [] (y ∷ b) n h e = absurd (omega arith)
length-joined (x ∷ a) [] n h e = e
length-joined (x ∷ a) (y ∷ b) n h e = omega (arith, length-joined a b (length a) (omega arith) refl)
