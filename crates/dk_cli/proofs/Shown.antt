-- The text of show, over what a store may tell.
use Rattle.std.proofs.Common.{◌≡◌, ℕ, ℤ, List, refl, ap, sym, subst, ◌∙◌}
use Rattle.std.specs.Prelude.{Option, Some, None, Result, Ok, Err, IfSome}
use Rattle.dk_store.specs.Told.{Told}
use Rattle.dk_engine.specs.declared.refusal.Refusal.{Refusal}
use Rattle.dk_engine.specs.declared.refusal.Refusal.TheVariants as refusals
use Rattle.dk_engine.specs.Answers.{AnswersBy}
use Rattle.dk_engine.specs.declared.limits.Limits.{Limits}
use Rattle.dk_lawful.specs.declared.segment.Choice.{Choice}
use Rattle.dk_snapshot.specs.declared.table.Snapshot.{Snapshot}
use Rattle.dk_snapshot.specs.Opening.{opened}
use Rattle.dk_snapshot.specs.Opens.{Opens}
use Rattle.dk_snapshot.proofs.Opens.{opens_is}
use Rattle.dk_cli.specs.Show.{ShowsAs, text_of_opened, text_of_snapshot}

-- a refusal of opening is that of showing
refusal_shown : {X : Type 0} (view : X → List ℕ) (events : List Told) (limits : Limits) (at : Option ℕ) (choice : Choice) (now : ℤ) (refusal : Refusal)
    → AnswersBy {X = Snapshot} (λ snapshot. snapshot) (Err refusal) (Opens events limits at choice now) → AnswersBy {X = X} view (Err refusal) (ShowsAs events limits at choice now)
refusal_shown {X = X} view events limits at choice now refusals.Store opens = tt
refusal_shown {X = X} view events limits at choice now refusals.OutOfMemory opens = tt
refusal_shown {X = X} view events limits at choice now (refusals.Taken path) opens = absurd opens
refusal_shown {X = X} view events limits at choice now refusal opens = (Err refusal, opens, refl)

module _ (limits : Limits) (at : Option ℕ) (choice : Choice) (now : ℤ) where
  abbrev OpensSo : ℤ → Result Snapshot Refusal → List Told → Type 0
  OpensSo moment result events = AnswersBy {X = Snapshot} (λ snapshot. snapshot) result (Opens events limits at choice moment)

  at_moment : (told : Option (List Told)) (passed : ℤ) (result : Result Snapshot Refusal) → passed ≡ now → IfSome told (OpensSo passed result) → IfSome told (OpensSo now result)
  at_moment told passed result same opens = subst (λ (n : ℤ). IfSome told (OpensSo n result)) same opens

  told_refused : {X : Type 0} (view : X → List ℕ) (told : Option (List Told)) (refusal : Refusal) → IfSome told (OpensSo now (Err refusal))
      → IfSome told (λ events. AnswersBy {X = X} view (Err refusal) (ShowsAs events limits at choice now))
  told_refused {X = X} view None refusal opens = tt
  told_refused {X = X} view (Some events) refusal opens = refusal_shown view events limits at choice now refusal opens

  pub show_refused : {X : Type 0} (view : X → List ℕ) (told : Option (List Told)) (passed : ℤ) (refusal : Refusal) → passed ≡ now → IfSome told (OpensSo passed (Err refusal))
      → IfSome told (λ events. AnswersBy {X = X} view (Err refusal) (ShowsAs events limits at choice now))
  show_refused {X = X} view told passed refusal same opens = told_refused view told refusal (at_moment told passed (Err refusal) same opens)

  told_done : (told : Option (List Told)) (snapshot : Snapshot) (text : List ℕ) → text ≡ text_of_snapshot snapshot → IfSome told (OpensSo now (Ok snapshot))
      → IfSome told (λ events. ShowsAs events limits at choice now (Ok text))
  told_done None snapshot text is opens = tt
  told_done (Some events) snapshot text is opens = (Ok snapshot, opens, ap (λ (t : List ℕ). Ok t) is)

  pub show_done : (told : Option (List Told)) (passed : ℤ) (snapshot : Snapshot) (text : List ℕ) → passed ≡ now → text ≡ text_of_snapshot snapshot → IfSome told (OpensSo passed (Ok snapshot))
      → IfSome told (λ events. ShowsAs events limits at choice now (Ok text))
  show_done told passed snapshot text same is opens = told_done told snapshot text is (at_moment told passed (Ok snapshot) same opens)

  -- what is shown is one: the text of the one value that the version opens as
  pub shows_is : (events : List Told) (meant : Result (List ℕ) Refusal) → ShowsAs events limits at choice now meant → meant ≡ text_of_opened (opened events limits at choice now)
  shows_is events meant (opens, are, is) = is ∙ sym (ap text_of_opened (opens_is events limits at choice now opens are))

-- the refusal of a meaning, whatever it is seen by
text_refused : {X : Type 0} (view : X → List ℕ) (refusal : Refusal) (Means : Result (List ℕ) Refusal → Type 0) → AnswersBy {X = X} view (Err refusal) Means → AnswersBy {X = List ℕ} (λ text. text) (Err refusal) Means
text_refused {X = X} view refusals.Store Means gives = tt
text_refused {X = X} view refusals.OutOfMemory Means gives = tt
text_refused {X = X} view (refusals.Taken path) Means gives = absurd gives
text_refused {X = X} view refusal Means gives = gives

pub refused_text : {X : Type 0} (view : X → List ℕ) (told : Option (List Told)) (refusal : Refusal) (Means : List Told → Result (List ℕ) Refusal → Type 0) (old new : Option (List ℕ)) → new ≡ old
    → IfSome told (λ events. AnswersBy {X = X} view (Err refusal) (Means events)) → IfSome told (λ events. AnswersBy {X = List ℕ} (λ text. text) (Err refusal) (Means events) × (new ≡ old))
refused_text {X = X} view None refusal Means old new same gives = tt
refused_text {X = X} view (Some events) refusal Means old new same gives = (text_refused view refusal (Means events) gives, same)
