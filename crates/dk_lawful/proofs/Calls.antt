-- Each writing call whose event is permitted keeps a lawful log lawful.
use Rattle.std.proofs.Common.{◌≡◌, ℕ, ℤ, ◌≤ℤ◌, Bool, true, false, List, [], ◌∷◌, ◌++◌, Option, Some, None, Ok, Err, inl, inr, option_map, if◌then◌else◌, refl, sym, ap, subst, ◌∙◌, arith, append_assoc}
use Rattle.std.proofs.lemmas.Int.{ints}
use Rattle.std.specs.Prelude.{IfSome, is_some, take}
use Rattle.dk_store.specs.declared.event.Put.TheVariants as puts
use Rattle.dk_store.specs.declared.event.Ratify.TheVariants as ratifies
use Rattle.dk_store.specs.declared.event.StoreError.TheVariants as errors
use Rattle.dk_store.specs.Told.{Told, Made, Over, Deleted, Ratified, Forgotten}
use Rattle.dk_store.specs.Objects.{object}
use Rattle.dk_store.specs.Writing.{deleted}
use Rattle.dk_paths.specs.Places.{Place, Commit_at, Classic, Part, V2, Compacted, Hint, Sidecar, Staged, Other, place_of}
use Rattle.dk_lawful.specs.Permits.{Permits, MayOver, MayDelete}
use Rattle.dk_lawful.specs.Lawful.{Lawful}
use Rattle.dk_lawful.specs.Kept.{IfBoth, ReachesCut, StaysLawful, StaysLawfulPast, KeepsLawfulPast}
use Rattle.dk_lawful.specs.Calls.{PutNewKeepsLawful, PutOverKeepsLawful, DeleteKeepsLawful, RatifyKeepsLawful, ForgetKeepsLawful, NoCutIsSame, SameIsPastEach, KeepsLawfulOnwards}
use Rattle.dk_lawful.proofs.Structure.{greater_horizon_is_lawful}

-- what may come up to each horizon that the call reaches
abbrev pub Owed : Option ℤ → (List Told → ℤ → Type 0) → List Told → Type 0
Owed cut fact events = (horizon greater : ℤ) → horizon ≤ℤ greater → ReachesCut cut greater → Lawful events horizon → fact events greater

-- nothing was added, or one permitted event
nothing_added : (cut : Option ℤ) (events : List Told) → StaysLawfulPast cut events events
nothing_added cut events = record { newer = []; is = refl; lawful = λ horizon greater up reaches lawful. greater_horizon_is_lawful events horizon greater up lawful }

one_added : (cut : Option ℤ) (events : List Told) (event : Told) → Owed cut (λ es horizon. Permits es event horizon) events → StaysLawfulPast cut events (event ∷ events)
one_added cut events event permits = record {
  newer = event ∷ [];
  is = refl;
  lawful = λ horizon greater up reaches lawful. (permits horizon greater up reaches lawful, greater_horizon_is_lawful events horizon greater up lawful);
}

-- the events after a call are made of those before it
by_map : (cut : Option ℤ) (more : List Told → List Told) (old new : Option (List Told)) → IfSome old (λ events. StaysLawfulPast cut events (more events)) → new ≡ option_map more old → KeepsLawfulPast cut old new
by_map cut more None None stays is = tt
by_map cut more (Some events) (Some later) stays is = let same : later ≡ more events = cc in subst (StaysLawfulPast cut events) (sym same) stays
by_map cut more None (Some later) stays is = let no : ◌≡◌ {A = Option (List Told)} (Some later) None = is in cc
by_map cut more (Some events) None stays is = let no : ◌≡◌ {A = Option (List Told)} None (Some (more events)) = is in cc

unchanged : (cut : Option ℤ) (old new : Option (List Told)) → new ≡ old → KeepsLawfulPast cut old new
unchanged cut None None is = tt
unchanged cut (Some events) (Some later) is = let same : later ≡ events = cc in subst (StaysLawfulPast cut events) (sym same) (nothing_added cut events)
unchanged cut None (Some later) is = let no : ◌≡◌ {A = Option (List Told)} (Some later) None = is in cc
unchanged cut (Some events) None is = let no : ◌≡◌ {A = Option (List Told)} None (Some events) = is in cc

-- one event is added to the events that are told
if_told : (cut : Option ℤ) (old : Option (List Told)) (event : Told) → IfSome old (Owed cut (λ es horizon. Permits es event horizon))
    → IfSome old (λ events. StaysLawfulPast cut events (event ∷ events))
if_told cut None event permits = tt
if_told cut (Some events) event permits = one_added cut events event permits

adds : (cut : Option ℤ) (old new : Option (List Told)) (event : Told) → IfSome old (Owed cut (λ es horizon. Permits es event horizon))
    → new ≡ option_map (λ events. event ∷ events) old → KeepsLawfulPast cut old new
adds cut old new event permits is = by_map cut (λ events. event ∷ events) old new (if_told cut old event permits) is

both : (old : Option (List Told)) (first second third : List Told → Type 0) → ((events : List Told) → first events → second events → third events)
    → IfSome old first → IfSome old second → IfSome old third
both None first second third join a b = tt
both (Some events) first second third join a b = join events a b

pub put_new_keeps_lawful : PutNewKeepsLawful
put_new_keeps_lawful cut path bytes old new (Ok puts.Made) may put =
    adds cut old new (Made path bytes put.1.stamp) (both old _ _ _ (λ events free makes horizon greater up reaches lawful. (free, makes horizon greater up reaches lawful)) put.0 may) put.1.is
put_new_keeps_lawful cut path bytes old new (Ok puts.Exists) may put = unchanged cut old new put.1
put_new_keeps_lawful cut path bytes old new (Err errors.Failed) may (inl put) = unchanged cut old new put
put_new_keeps_lawful cut path bytes old new (Err errors.Failed) may (inr put) =
    adds cut old new (Made path bytes put.1.stamp) (both old _ _ _ (λ events free makes horizon greater up reaches lawful. (free, makes horizon greater up reaches lawful)) put.0 may) put.1.is
put_new_keeps_lawful cut path bytes old new (Err errors.OutOfMemory) may put = unchanged cut old new put

always : (old : Option (List Told)) (fact : List Told → Type 0) → ((events : List Told) → fact events) → IfSome old fact
always None fact holds = tt
always (Some events) fact holds = holds events

-- what may be written over may go
may_go : (events : List Told) (place : Place) → MayOver place → MayDelete events place
may_go events Hint may = tt
may_go events (Other path) may = tt
may_go events (Commit_at version) may = absurd may
may_go events (Classic version) may = absurd may
may_go events (Part version part parts) may = absurd may
may_go events (V2 version id json) may = absurd may
may_go events (Compacted first last) may = absurd may
may_go events (Sidecar name) may = absurd may
may_go events (Staged version id) may = absurd may

pub put_over_keeps_lawful : PutOverKeepsLawful
put_over_keeps_lawful cut path bytes old new (Ok u) may put = adds cut old new (Over path bytes put.stamp) (always old _ (λ events horizon greater up reaches lawful. may)) put.is
put_over_keeps_lawful cut path bytes old new (Err errors.Failed) may (inl put) = unchanged cut old new put
put_over_keeps_lawful cut path bytes old new (Err errors.Failed) may (inr (inl put)) =
    adds cut old new (Over path (take put.0 bytes) put.1.stamp) (always old _ (λ events horizon greater up reaches lawful. may)) put.1.is
put_over_keeps_lawful cut path bytes old new (Err errors.Failed) may (inr (inr put)) =
    adds cut old new (Deleted path) (always old _ (λ events horizon greater up reaches lawful. may_go events (place_of path) may)) put
put_over_keeps_lawful cut path bytes old new (Err errors.OutOfMemory) may put = unchanged cut old new put

delete_stays : (cut : Option ℤ) (path : List ℕ) (events : List Told) → Owed cut (λ es horizon. MayDelete es (place_of path)) events → StaysLawfulPast cut events (deleted path events)
delete_stays cut path events may = by (is_some (object events path))
  where
    by : (stands : Bool) → StaysLawfulPast cut events (if stands then Deleted path ∷ events else events)
    by true = one_added cut events (Deleted path) may
    by false = nothing_added cut events

pub delete_keeps_lawful : DeleteKeepsLawful
delete_keeps_lawful cut path old new (Ok u) may gone = by_map cut (deleted path) old new (both old _ _ _ (λ events one two. delete_stays cut path events two) (always old (λ events. Unit {0}) (λ events. tt)) may) gone
delete_keeps_lawful cut path old new (Err errors.Failed) may (inl gone) = unchanged cut old new gone
delete_keeps_lawful cut path old new (Err errors.Failed) may (inr gone) = by_map cut (deleted path) old new (both old _ _ _ (λ events one two. delete_stays cut path events two) (always old (λ events. Unit {0}) (λ events. tt)) may) gone
delete_keeps_lawful cut path old new (Err errors.OutOfMemory) may gone = unchanged cut old new gone

pub ratify_keeps_lawful : RatifyKeepsLawful
ratify_keeps_lawful cut version name old new (Ok ratifies.Made) may done = adds cut old new (Ratified version name) may done.1
ratify_keeps_lawful cut version name old new (Ok (ratifies.Lost next)) may done = unchanged cut old new done.1
ratify_keeps_lawful cut version name old new (Err errors.Failed) may (inl done) = unchanged cut old new done
ratify_keeps_lawful cut version name old new (Err errors.Failed) may (inr done) = adds cut old new (Ratified version name) may done.1
ratify_keeps_lawful cut version name old new (Err errors.OutOfMemory) may done = unchanged cut old new done

pub forget_keeps_lawful : ForgetKeepsLawful
forget_keeps_lawful cut upto old new (Ok u) may done = adds cut old new (Forgotten upto) may done
forget_keeps_lawful cut upto old new (Err errors.Failed) may (inl done) = unchanged cut old new done
forget_keeps_lawful cut upto old new (Err errors.Failed) may (inr done) = adds cut old new (Forgotten upto) may done
forget_keeps_lawful cut upto old new (Err errors.OutOfMemory) may done = unchanged cut old new done

-- ---- no cut

on_both : (old new : Option (List Told)) (one other : List Told → List Told → Type 0) → ((events later : List Told) → one events later → other events later)
    → IfBoth old new one → IfBoth old new other
on_both None None one other turn holds = tt
on_both (Some events) (Some later) one other turn holds = turn events later holds
on_both None (Some later) one other turn holds = absurd holds
on_both (Some events) None one other turn holds = absurd holds

pub stays_same : (events later : List Told) → StaysLawfulPast None events later → StaysLawful events later
stays_same events later stays = record { newer = stays.newer; is = stays.is; lawful = λ horizon lawful. stays.lawful horizon horizon (omega (arith, ints)) tt lawful }

pub stays_past : (cut : Option ℤ) (events later : List Told) → StaysLawful events later → StaysLawfulPast cut events later
stays_past cut events later stays = record {
  newer = stays.newer;
  is = stays.is;
  lawful = λ horizon greater up reaches lawful. greater_horizon_is_lawful later horizon greater up (stays.lawful horizon lawful);
}

pub no_cut_is_same : NoCutIsSame
no_cut_is_same old new keeps = on_both old new (StaysLawfulPast None) StaysLawful stays_same keeps

pub same_is_past_each : SameIsPastEach
same_is_past_each cut old new keeps = on_both old new StaysLawful (StaysLawfulPast cut) (stays_past cut) keeps

pub keeps_lawful_onwards : KeepsLawfulOnwards
keeps_lawful_onwards cut None None None one two = tt
keeps_lawful_onwards cut (Some events) (Some later) (Some last) one two = record {
  newer = two.newer ++ one.newer;
  is = two.is ∙ ap (λ es. two.newer ++ es) one.is ∙ sym (append_assoc two.newer one.newer events);
  lawful = λ horizon greater up reaches lawful. two.lawful greater greater (omega (arith, ints)) reaches (one.lawful horizon greater up reaches lawful);
}
keeps_lawful_onwards cut None (Some later) new one two = absurd one
keeps_lawful_onwards cut (Some events) None new one two = absurd one
keeps_lawful_onwards cut None None (Some last) one two = absurd two
keeps_lawful_onwards cut (Some events) (Some later) None one two = absurd two
