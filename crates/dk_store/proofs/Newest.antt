-- Events that stand oldest first, told the newest first.
use Rattle.std.proofs.Common.{◌≡◌, ℕ, ◌+◌, ◌<◌, List, [], ◌∷◌, ◌++◌, map, reverse, find, Option, Some, None, Bool, true, false, cond, option_map, bytes_eq, refl, sym, ap, ◌∙◌}
use Rattle.std.proofs.lemmas.List.{reverse-append, map-append}
use Rattle.dk_store.specs.declared.event.Event.{Event}
use Rattle.dk_store.specs.Told.{Told, Stored, Made, Over, Deleted, Ratified, Forgotten}
use Rattle.dk_store.specs.Objects.{content, object}
use Rattle.dk_store.specs.Views.{told_event, newest_first}
use Rattle.dk_store.specs.Memory.{is_about, bytes_left}

-- the bytes that an event leaves at its own path, if there is one
abbrev bytes_of : Option Told → Option (List ℕ)
bytes_of None = None
bytes_of (Some event) = bytes_left event

found : (b : Bool) (o : Option Stored) (bytes : List ℕ) (stamp : _) → option_map (λ s. s.bytes) (cond b (Some (record { bytes = bytes; stamp = stamp })) o) ≡ cond b (Some bytes) (option_map (λ s. s.bytes) o)
found true o bytes stamp = refl
found false o bytes stamp = refl

lost : (b : Bool) (o : Option Stored) → option_map (λ s. s.bytes) (cond b None o) ≡ cond b None (option_map (λ s. s.bytes) o)
lost true o = refl
lost false o = refl

moved : (b : Bool) (event : Told) (o : Option Told) → cond b (bytes_left event) (bytes_of o) ≡ bytes_of (cond b (Some event) o)
moved true event o = refl
moved false event o = refl

-- the newest event about a path decides what stands there
content-newest : (events : List Told) (path : List ℕ) → content events path ≡ bytes_of (find (is_about path) events)
content-newest [] path = refl
content-newest (Made p bytes stamp ∷ events) path = found (bytes_eq p path) (object events path) bytes stamp ∙ ap (cond (bytes_eq p path) (Some bytes)) (content-newest events path) ∙ moved (bytes_eq p path) (Made p bytes stamp) (find (is_about path) events)
content-newest (Over p bytes stamp ∷ events) path = found (bytes_eq p path) (object events path) bytes stamp ∙ ap (cond (bytes_eq p path) (Some bytes)) (content-newest events path) ∙ moved (bytes_eq p path) (Over p bytes stamp) (find (is_about path) events)
content-newest (Deleted p ∷ events) path = lost (bytes_eq p path) (object events path) ∙ ap (cond (bytes_eq p path) None) (content-newest events path) ∙ moved (bytes_eq p path) (Deleted p) (find (is_about path) events)
content-newest (Ratified version name ∷ events) path = content-newest events path
content-newest (Forgotten upto ∷ events) path = content-newest events path

map-reverse : {A B : Type 0} (f : A → B) (xs : List A) → reverse (map f xs) ≡ map f (reverse xs)
map-reverse f [] = refl
map-reverse f (x ∷ xs) = reverse-append (f x ∷ []) (map f xs) ∙ ap (λ l. l ++ f x ∷ []) (map-reverse f xs) ∙ sym (map-append f (reverse xs) (x ∷ [])) ∙ ap (map f) (sym (reverse-append (x ∷ []) xs))

mapped : {A B : Type 0} (f : A → B) (b : Bool) (y : A) (o : Option A) → cond b (Some (f y)) (option_map f o) ≡ option_map f (cond b (Some y) o)
mapped f true y o = refl
mapped f false y o = refl

find-map : {A B : Type 0} (f : A → B) (p : B → Bool) (xs : List A) → find p (map f xs) ≡ option_map f (find (λ x. p (f x)) xs)
find-map f p [] = refl
find-map f p (x ∷ xs) = ap (cond (p (f x)) (Some (f x))) (find-map f p xs) ∙ mapped f (p (f x)) x (find (λ y. p (f y)) xs)

content-found : (events : List Event) (path : List ℕ) → content (newest_first events) path ≡ bytes_of (option_map told_event (find (λ e. is_about path (told_event e)) (reverse events)))
content-found events path = content-newest (newest_first events) path ∙ ap (λ es. bytes_of (find (is_about path) es)) (map-reverse told_event events) ∙ ap bytes_of (find-map told_event (is_about path) (reverse events))

pub content-absent : (events : List Event) (path : List ℕ) → find (λ e. is_about path (told_event e)) (reverse events) ≡ None → content (newest_first events) path ≡ None
content-absent events path e = content-found events path ∙ ap (λ o. bytes_of (option_map told_event o)) e

pub content-present : (events : List Event) (path : List ℕ) (event : Event) → find (λ e. is_about path (told_event e)) (reverse events) ≡ Some event → content (newest_first events) path ≡ bytes_left (told_event event)
content-present events path event e = content-found events path ∙ ap (λ o. bytes_of (option_map told_event o)) e
