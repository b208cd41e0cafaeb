-- Every version that stands ratified is one that a table can have, where that holds of each ratification.
use Rattle.std.proofs.Common.{◌≡◌, ℕ, ◌<◌, ◌^◌, Bool, true, false, cond, ◌&&◌, List, [], ◌∷◌, map, length, get_or, nat_eq, nat_le, nat_lt, nat_cmp, refl, sym, ap, subst, ◌∙◌, arith, suc, zero}
use Rattle.std.specs.Prelude.{Some, None, All}
use Rattle.std.specs.List.{list_all}
use Rattle.std.specs.Ordering.{eq_by_cmp}
use Rattle.std.specs.FinMap.{entries, get-entries, find}
use Rattle.std.proofs.lemmas.Bool.Decides.{nat_tests}
use Rattle.std.proofs.lemmas.List.{reverse-append, get_or-map, length-map}
use Rattle.std.proofs.lemmas.List.Elements.{All-filter}
use Rattle.std.proofs.lemmas.List.Folds.{list_all-append}
use Rattle.dk_store.specs.declared.event.Event.{Event}
use Rattle.dk_store.specs.Told.{Told, Made, Over, Deleted, Ratified, Forgotten}
use Rattle.dk_store.specs.Standings.{has_version, ratified_from, standing, standings}
use Rattle.dk_store.specs.Views.{newest_first, ratification, told_event}
use Rattle.dk_store.specs.declared.event.Ratification.{Ratification}
use Rattle.dk_store.proofs.Lookups.{get-standings}

turned : (a b : Bool) → (a && b) ≡ (b && (a && true))
turned true true = refl
turned true false = refl
turned false true = refl
turned false false = refl

-- the order of the events is no matter
pub has_versions-newest : (events : List Event) → list_all (λ e. has_version (told_event e)) events ≡ list_all has_version (newest_first events)
has_versions-newest [] = refl
has_versions-newest (e ∷ events) =
    ap (λ b. has_version (told_event e) && b) (has_versions-newest events)
    ∙ turned (has_version (told_event e)) (list_all has_version (newest_first events))
    ∙ sym (list_all-append has_version (newest_first events) (told_event e ∷ []))
    ∙ ap (list_all has_version) (sym (reverse-append (told_event e ∷ []) (map told_event events)))

both : (a b : Bool) → (a && b) ≡ true → (a ≡ true) × (b ≡ true)
both true b h = (refl, h)
both false b h = cc

same_small : (v w : ℕ) → nat_eq v w ≡ true → nat_lt v (2 ^ 63) ≡ true → w < 2 ^ 63
same_small v w is below = grind (arith, nat_tests)

-- a version that stands is one that a table can have
pub standing-version : (events : List Told) (version : ℕ) (name : List ℕ) → list_all has_version events ≡ true → standing events version ≡ Some name → version < 2 ^ 63
standing-version [] version name h e = cc
standing-version (Made p bytes stamp ∷ events) version name h e = standing-version events version name h e
standing-version (Over p bytes stamp ∷ events) version name h e = standing-version events version name h e
standing-version (Deleted p ∷ events) version name h e = standing-version events version name h e
standing-version (Forgotten upto ∷ events) version name h e = go (nat_le version upto) e (standing-version events version name h)
  where
    go : (b : Bool) → cond b None (standing events version) ≡ Some name → (standing events version ≡ Some name → version < 2 ^ 63) → version < 2 ^ 63
    go true e older = cc
    go false e older = older e
standing-version (Ratified v n ∷ events) version name h e =
    let small : (nat_lt v (2 ^ 63) ≡ true) × (list_all has_version events ≡ true) = both (nat_lt v (2 ^ 63)) (list_all has_version events) h in
    go (nat_eq v version) refl small.0 e (standing-version events version name small.1)
  where
    go : (b : Bool) → nat_eq v version ≡ b → nat_lt v (2 ^ 63) ≡ true → cond b (Some n) (standing events version) ≡ Some name → (standing events version ≡ Some name → version < 2 ^ 63) → version < 2 ^ 63
    go true is below e older = same_small v version is below
    go false is below e older = older e

itself : (v : ℕ) → eq_by_cmp nat_cmp v v ≡ true
itself v = grind (arith, nat_tests)

-- a key of a list of entries is found there
found : (es : List (ℕ × List ℕ)) (k : ℕ) (d : ℕ × List ℕ) → k < length es → (x : List ℕ) × (find nat_cmp (get_or es k d).0 es ≡ Some x)
found [] k d h = absurd (omega arith)
found (e ∷ es) zero d h = (e.1, rw (itself e.0) refl)
found (e ∷ es) (suc k) d h = go (eq_by_cmp nat_cmp (get_or es k d).0 e.0) (found es k d (omega arith))
  where
    go : (b : Bool) → ((x : List ℕ) × (find nat_cmp (get_or es k d).0 es ≡ Some x)) → (x : List ℕ) × (cond b (Some e.1) (find nat_cmp (get_or es k d).0 es) ≡ Some x)
    go true f = (e.1, refl)
    go false f = f

standings-versions : (events : List Told) → list_all has_version events ≡ true → All (λ e. e.0 < 2 ^ 63) (entries (standings events))
standings-versions events h k d lt =
    let f : (x : List ℕ) × (find nat_cmp (get_or (entries (standings events)) k d).0 (entries (standings events)) ≡ Some x) = found (entries (standings events)) k d lt in
    standing-version events (get_or (entries (standings events)) k d).0 f.0 h (sym (get-standings events _) ∙ get-entries (standings events) _ ∙ f.1)

-- and so is every version that is answered
pub ratified-versions : (events : List Told) (from : ℕ) (rs : List Ratification) → list_all has_version events ≡ true → map ratification rs ≡ ratified_from events from → All (λ r. r.version < 2 ^ 63) rs
ratified-versions events from rs h is k d lt =
    let all : All (λ e. e.0 < 2 ^ 63) (map ratification rs) = rw is (All-filter (λ e. nat_le from e.0) (λ e. e.0 < 2 ^ 63) (entries (standings events)) (standings-versions events h)) in
    let at : (get_or (map ratification rs) k (ratification d)).0 < 2 ^ 63 = all k (ratification d) (simp length-map lt) in
    subst (λ (e : ℕ × List ℕ). e.0 < 2 ^ 63) (get_or-map ratification rs k d (ratification d) lt) at
