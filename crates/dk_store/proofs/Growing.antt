-- The events of a store only grow, whatever call it was.
use Rattle.std.proofs.Common.{◌≡◌, ℕ, ◌∷◌, ◌++◌, List, [], Bool, true, false, cond, refl, sym, subst, ap, ◌∙◌, append_assoc, inl, inr}
use Rattle.std.specs.Prelude.{Option, Some, None, Result, Ok, Err, is_some, option_map}
use Rattle.dk_store.specs.declared.event.Put.{Put}
use Rattle.dk_store.specs.declared.event.Put.TheVariants as puts
use Rattle.dk_store.specs.declared.event.Ratify.{Ratify}
use Rattle.dk_store.specs.declared.event.Ratify.TheVariants as ratifies
use Rattle.dk_store.specs.declared.event.StoreError.{StoreError}
use Rattle.dk_store.specs.declared.event.StoreError.TheVariants as errors
use Rattle.dk_store.specs.Told.{Told, Made, Over, Deleted, Ratified, Forgotten, added}
use Rattle.dk_store.specs.Objects.{object}
use Rattle.dk_store.specs.Writing.{PutsNew, PutsOver, Deletes, Ratifies, Forgets, deleted}
use Rattle.dk_store.specs.Seen.{Grows}

-- what stays has grown by nothing
pub grows_by_none : (events : Option (List Told)) → Grows events events
grows_by_none None = tt
grows_by_none (Some events) = ([], refl)

pub same_grows : (old new : Option (List Told)) → new ≡ old → Grows old new
same_grows old new same = subst (Grows old) (sym same) (grows_by_none old)

-- one event more
grows_by_one : (event : Told) (events : Option (List Told)) → Grows events (added event events)
grows_by_one event None = tt
grows_by_one event (Some events) = (event ∷ [], refl)

pub added_grows : (event : Told) (old new : Option (List Told)) → new ≡ added event old → Grows old new
added_grows event old new one = subst (Grows old) (sym one) (grows_by_one event old)

-- each writing call, by its answer
pub puts_new_grows : (path bytes : List ℕ) (old new : Option (List Told)) (result : Result Put StoreError) → PutsNew path bytes old result new → Grows old new
puts_new_grows path bytes old new (Ok puts.Made) means = added_grows _ old new means.1.is
puts_new_grows path bytes old new (Ok puts.Exists) means = same_grows old new means.1
puts_new_grows path bytes old new (Err errors.Failed) (inl same) = same_grows old new same
puts_new_grows path bytes old new (Err errors.Failed) (inr means) = added_grows _ old new means.1.is
puts_new_grows path bytes old new (Err errors.OutOfMemory) means = same_grows old new means

pub puts_over_grows : (path bytes : List ℕ) (old new : Option (List Told)) (result : Result (Unit {0}) StoreError) → PutsOver path bytes old result new → Grows old new
puts_over_grows path bytes old new (Ok u) means = added_grows _ old new means.is
puts_over_grows path bytes old new (Err errors.Failed) (inl same) = same_grows old new same
puts_over_grows path bytes old new (Err errors.Failed) (inr (inl (kept, means))) = added_grows _ old new means.is
puts_over_grows path bytes old new (Err errors.Failed) (inr (inr lost)) = added_grows _ old new lost
puts_over_grows path bytes old new (Err errors.OutOfMemory) means = same_grows old new means

grows_by_deletion : (path : List ℕ) (events : Option (List Told)) → Grows events (option_map (deleted path) events)
grows_by_deletion path None = tt
grows_by_deletion path (Some events) = go (is_some (object events path))
  where
    go : (there : Bool) → Grows (Some events) (Some (cond there (Deleted path ∷ events) events))
    go true = (Deleted path ∷ [], refl)
    go false = ([], refl)

deleted_grows : (path : List ℕ) (old new : Option (List Told)) → new ≡ option_map (deleted path) old → Grows old new
deleted_grows path old new one = subst (Grows old) (sym one) (grows_by_deletion path old)

pub deletes_grows : (path : List ℕ) (old new : Option (List Told)) (result : Result (Unit {0}) StoreError) → Deletes path old result new → Grows old new
deletes_grows path old new (Ok u) means = deleted_grows path old new means
deletes_grows path old new (Err errors.Failed) (inl same) = same_grows old new same
deletes_grows path old new (Err errors.Failed) (inr means) = deleted_grows path old new means
deletes_grows path old new (Err errors.OutOfMemory) means = same_grows old new means

pub ratifies_grows : (version : ℕ) (name : List ℕ) (old new : Option (List Told)) (result : Result Ratify StoreError) → Ratifies version name old result new → Grows old new
ratifies_grows version name old new (Ok ratifies.Made) means = added_grows _ old new means.1
ratifies_grows version name old new (Ok (ratifies.Lost next)) means = same_grows old new means.1
ratifies_grows version name old new (Err errors.Failed) (inl same) = same_grows old new same
ratifies_grows version name old new (Err errors.Failed) (inr means) = added_grows _ old new means.1
ratifies_grows version name old new (Err errors.OutOfMemory) means = same_grows old new means

pub forgets_grows : (upto : ℕ) (old new : Option (List Told)) (result : Result (Unit {0}) StoreError) → Forgets upto old result new → Grows old new
forgets_grows upto old new (Ok u) means = added_grows _ old new means
forgets_grows upto old new (Err errors.Failed) (inl same) = same_grows old new same
forgets_grows upto old new (Err errors.Failed) (inr means) = added_grows _ old new means
forgets_grows upto old new (Err errors.OutOfMemory) means = same_grows old new means

-- what has grown twice has grown
pub grows_on : (old mid new : Option (List Told)) → Grows old mid → Grows mid new → Grows old new
grows_on None None None first then = tt
grows_on (Some old) (Some mid) (Some new) (some, first) (more, then) = (more ++ some, then ∙ ap (λ events. more ++ events) first ∙ sym (append_assoc more some old))
grows_on None None (Some new) first then = then
grows_on (Some old) (Some mid) None first then = then
grows_on None (Some mid) new first then = absurd first
grows_on (Some old) None new first then = absurd first

-- a store tells at both moments or at neither
pub grows_alike : (old new : Option (List Told)) → Grows old new → is_some new ≡ is_some old
grows_alike None None grows = refl
grows_alike (Some old) (Some new) grows = refl
grows_alike None (Some new) grows = absurd grows
grows_alike (Some old) None grows = absurd grows
