-- A listing shows a name exactly where its object stands.
use Rattle.std.proofs.Common.{◌≡◌, ℕ, List, [], ◌∷◌, ◌++◌, find, refl, ap, ap₂, sym, ◌∙◌, Bool, true, false, cond, bytes_eq, inl, inr}
use Rattle.std.specs.Prelude.{Option, Some, None, ◌==◌, option_and_then, option_map}
use Rattle.std.specs.List.{list_any, filter_map, cons_option}
use Rattle.std.specs.Ordering.{is_lt}
use Rattle.std.specs.FinMap.{entries, get-entries}
use Rattle.std.specs.FinMap as finite
use Rattle.std.proofs.lemmas.Bool.Decides.{eqb_tells, same_from_decides}
use Rattle.std.proofs.lemmas.Slice.Eq.{bytes_eq-Decides}
use Rattle.dk_store.specs.Told.{Told, Stored, Listed}
use Rattle.dk_store.specs.Objects.{object, objects, path_cmp}
use Rattle.dk_store.specs.Listing.{behind, unslashed, name_in, path_in, name_from, listed_as, listed_in, listing}
use Rattle.dk_store.proofs.Lookups.{same_path, get-objects}
use Rattle.dk_store.proofs.Names.{behind-append}

-- what is behind a prefix, and the prefix before it
pub append_from_behind : (prefix text rest : List ℕ) → behind prefix text ≡ Some rest → text ≡ prefix ++ rest
append_from_behind [] text rest h = cc
append_from_behind (p ∷ ps) [] rest h = cc
append_from_behind (p ∷ ps) (b ∷ bs) rest h = elim (eqb_tells p b) [
  | inl t ↦ let later : behind ps bs ≡ Some rest = rw t.0 at h in let same : p ≡ b = t.1 in let e : bs ≡ ps ++ rest = append_from_behind ps bs rest later in cc
  | inr f ↦ let none : None ≡ Some rest = rw f.0 at h in cc
]

pub unslashed_same : (text name : List ℕ) → unslashed text ≡ Some name → text ≡ name
unslashed_same text name h = go (list_any (λ b. b == 47) text) h
  where
    go : (t : Bool) → cond t None (Some text) ≡ Some name → text ≡ name
    go true e = cc
    go false e = cc

after_slash : (rest : Option (List ℕ)) (name : List ℕ) → option_and_then unslashed (option_and_then (behind (47 ∷ [])) rest) ≡ Some name → (text : List ℕ) × (rest ≡ Some text) × (text ≡ 47 ∷ name)
after_slash None name h = cc
after_slash (Some text) name h = (text, refl, go (behind (47 ∷ []) text) refl h)
  where
    go : (o : Option (List ℕ)) → behind (47 ∷ []) text ≡ o → option_and_then unslashed o ≡ Some name → text ≡ 47 ∷ name
    go None e f = cc
    go (Some other) e f = let same : other ≡ name = unslashed_same other name f in append_from_behind (47 ∷ []) text other e ∙ ap (λ n. 47 ∷ n) same

-- a path that has a name in a folder is the path of that name
pub path_in-name_in : (folder path name : List ℕ) → name_in folder path ≡ Some name → path ≡ path_in folder name
path_in-name_in [] path name h = unslashed_same path name h
path_in-name_in (b ∷ folder) path name h =
    let a : (text : List ℕ) × (behind (b ∷ folder) path ≡ Some text) × (text ≡ 47 ∷ name) = after_slash (behind (b ∷ folder) path) name h in
    append_from_behind (b ∷ folder) path a.0 a.1 ∙ ap (λ t. (b ∷ folder) ++ t) a.2

unslashed-plain : (name : List ℕ) → list_any (λ b. b == 47) name ≡ false → unslashed name ≡ Some name
unslashed-plain name h = rw h refl

-- a name with no slash is that of its path
pub name_in-path_in : (folder name : List ℕ) → list_any (λ b. b == 47) name ≡ false → name_in folder (path_in folder name) ≡ Some name
name_in-path_in [] name h = unslashed-plain name h
name_in-path_in (b ∷ folder) name h = ap (λ o. option_and_then unslashed (option_and_then (behind (47 ∷ [])) o)) (behind-append (b ∷ folder) (47 ∷ name)) ∙ unslashed-plain name h

name_from-Some : (from name : List ℕ) (o : Option (List ℕ)) → name_from from o ≡ Some name → o ≡ Some name
name_from-Some from name None h = h
name_from-Some from name (Some text) h = go (is_lt (path_cmp text from)) h
  where
    go : (t : Bool) → cond t None (Some text) ≡ Some name → Some text ≡ Some name
    go true e = cc
    go false e = e

-- whether a name, if there is one, is this
is_name : List ℕ → Option (List ℕ) → Bool
is_name name None = false
is_name name (Some text) = bytes_eq text name

is_name-Some : (name : List ℕ) (o : Option (List ℕ)) → is_name name o ≡ true → o ≡ Some name
unfolding is_name
is_name-Some name None h = cc
is_name-Some name (Some text) h = ap Some ((bytes_eq-Decides text name).0 h)

is_name-same : (name : List ℕ) → is_name name (Some name) ≡ true
unfolding is_name
is_name-same name = (bytes_eq-Decides name name).1 refl

-- an object is listed under a name exactly where its path is that of the name
listed_name : (folder from name path : List ℕ) → list_any (λ b. b == 47) name ≡ false → is_lt (path_cmp name from) ≡ false → is_name name (name_from from (name_in folder path)) ≡ bytes_eq path (path_in folder name)
listed_name folder from name path plain late = same_from_decides _ _ (there, back) (bytes_eq-Decides path (path_in folder name))
  where
    there : is_name name (name_from from (name_in folder path)) ≡ true → path ≡ path_in folder name
    there h = path_in-name_in folder path name (name_from-Some from name (name_in folder path) (is_name-Some name (name_from from (name_in folder path)) h))

    at : name_from from (name_in folder (path_in folder name)) ≡ Some name
    at = rw (name_in-path_in folder name plain, late) refl

    back : path ≡ path_in folder name → is_name name (name_from from (name_in folder path)) ≡ true
    back e = ap (λ p. is_name name (name_from from (name_in folder p))) e ∙ ap (is_name name) at ∙ is_name-same name

-- the first entry with the name, where one more may stand in front
find-front : (name : List ℕ) (o : Option (List ℕ)) (stored : Stored) (rest : List Listed) → find (λ l. bytes_eq l.name name) (cons_option (option_map (listed_as stored) o) rest) ≡ cond (is_name name o) (Some (listed_as stored name)) (find (λ l. bytes_eq l.name name) rest)
unfolding is_name
find-front name None stored rest = refl
find-front name (Some text) stored rest = go (bytes_eq text name) refl
  where
    go : (t : Bool) → bytes_eq text name ≡ t → cond t (Some (listed_as stored text)) (find (λ l. bytes_eq l.name name) rest) ≡ cond t (Some (listed_as stored name)) (find (λ l. bytes_eq l.name name) rest)
    go true e = ap (λ n. Some (listed_as stored n)) ((bytes_eq-Decides text name).0 e)
    go false e = refl

moved : (t : Bool) (name : List ℕ) (stored : Stored) (o : Option Stored) → cond t (Some (listed_as stored name)) (option_map (λ s. listed_as s name) o) ≡ option_map (λ s. listed_as s name) (cond t (Some stored) o)
moved true name stored o = refl
moved false name stored o = refl

find-listed_in : (folder from name : List ℕ) → list_any (λ b. b == 47) name ≡ false → is_lt (path_cmp name from) ≡ false → (os : List (List ℕ × Stored)) → find (λ l. bytes_eq l.name name) (filter_map (listed_in folder from) os) ≡ option_map (λ s. listed_as s name) (finite.find path_cmp (path_in folder name) os)
find-listed_in folder from name plain late [] = refl
find-listed_in folder from name plain late (e ∷ os) =
    find-front name (name_from from (name_in folder e.0)) e.1 (filter_map (listed_in folder from) os)
    ∙ ap₂ (λ t o. cond t (Some (listed_as e.1 name)) o) (listed_name folder from name e.0 plain late ∙ sym (same_path e.0 (path_in folder name))) (find-listed_in folder from name plain late os)
    ∙ moved _ name e.1 _

-- what a listing shows of a name with no slash that is at least `from`: its object, if that stands
pub find-listing : (events : List Told) (folder from name : List ℕ) → list_any (λ b. b == 47) name ≡ false → is_lt (path_cmp name from) ≡ false
    → find (λ l. bytes_eq l.name name) (listing events folder from) ≡ option_map (λ s. listed_as s name) (object events (path_in folder name))
find-listing events folder from name plain late =
    find-listed_in folder from name plain late (entries (objects events))
    ∙ ap (option_map (λ s. listed_as s name)) (sym (get-entries (objects events) (path_in folder name)) ∙ get-objects events (path_in folder name))
