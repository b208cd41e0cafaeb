-- An element of a list by its place, and a list that is longer by one.
use Rattle.std.proofs.Common.{◌≡◌, ℕ, zero, suc, List, [], ◌∷◌, ◌++◌, length, map, Option, Some, None, slice_get, ◌<◌, arith, ap₂, refl, take, ◌≤◌}

pub slice_get-append : {X : Type 0} (xs ys : List X) (i : ℕ) (x : X) → slice_get xs i ≡ Some x → slice_get (xs ++ ys) i ≡ Some x
slice_get-append [] ys i x e = absurd (let no : ◌≡◌ {A = Option _} None (Some x) = e in cc)
slice_get-append (a ∷ xs) ys zero x e = e
slice_get-append (a ∷ xs) ys (suc i) x e = slice_get-append xs ys i x e

pub slice_get-end : {X : Type 0} (xs : List X) (x : X) → slice_get (xs ++ x ∷ []) (length xs) ≡ Some x
slice_get-end [] x = refl
slice_get-end (a ∷ xs) x = slice_get-end xs x

pub slice_get-map : {X Y : Type 0} (f : X → Y) (xs : List X) (i : ℕ) (x : X) → slice_get xs i ≡ Some x → slice_get (map f xs) i ≡ Some (f x)
slice_get-map f [] i x e = absurd (let no : ◌≡◌ {A = Option _} None (Some x) = e in cc)
slice_get-map f (a ∷ xs) zero x e = let s : a ≡ x = cc in cc
slice_get-map f (a ∷ xs) (suc i) x e = slice_get-map f xs i x e

pub slice_get-within : {X : Type 0} (xs : List X) (i : ℕ) → i < length xs → (x : X) × (slice_get xs i ≡ Some x)
slice_get-within [] i below = absurd (omega arith)
slice_get-within (a ∷ xs) zero below = (a, refl)
slice_get-within (a ∷ xs) (suc i) below = slice_get-within xs i (omega arith)

-- lists with the same elements are the same
pub same_elements : {X : Type 0} (xs ys : List X) → ((i : ℕ) → slice_get xs i ≡ slice_get ys i) → xs ≡ ys
same_elements [] [] same = refl
same_elements [] (y ∷ ys) same = absurd (let no : ◌≡◌ {A = Option _} None (Some y) = same 0 in cc)
same_elements (x ∷ xs) [] same = absurd (let no : ◌≡◌ {A = Option _} (Some x) None = same 0 in cc)
same_elements (x ∷ xs) (y ∷ ys) same = let head : ◌≡◌ {A = Option _} (Some x) (Some y) = same 0 in let heads : x ≡ y = cc in ap₂ (λ z zs. z ∷ zs) heads (same_elements xs ys (λ i. same (suc i)))

pub slice_get-before : {X : Type 0} (xs ys : List X) (i : ℕ) → i < length xs → slice_get (xs ++ ys) i ≡ slice_get xs i
slice_get-before [] ys i below = absurd (omega arith)
slice_get-before (x ∷ xs) ys zero below = refl
slice_get-before (x ∷ xs) ys (suc i) below = slice_get-before xs ys i (omega arith)

pub slice_get-take : {X : Type 0} (n : ℕ) (xs : List X) (i : ℕ) → i < n → slice_get (take n xs) i ≡ slice_get xs i
slice_get-take zero xs i below = absurd (omega arith)
slice_get-take (suc n) [] i below = refl
slice_get-take (suc n) (x ∷ xs) zero below = refl
slice_get-take (suc n) (x ∷ xs) (suc i) below = slice_get-take n xs i (omega arith)

pub length-take-most : {X : Type 0} (n : ℕ) (xs : List X) → length (take n xs) ≤ n
length-take-most zero xs = omega arith
length-take-most (suc n) [] = omega arith
length-take-most (suc n) (x ∷ xs) = let most = length-take-most n xs in omega arith
