-- What a survey of a store finds.
use Rattle.std.specs.Prelude.{List, Result, Ok, Err}
use Rattle.dk_store.specs.Told.{Told}
use Rattle.dk_engine.specs.declared.refusal.Refusal.{Refusal}
use Rattle.dk_engine.specs.declared.refusal.Refusal.TheVariants as refusals
use Rattle.dk_listing.specs.declared.catalogued.Catalogued.{Catalogued}
use Rattle.dk_listing.specs.OfEvents.{IsListingOf}

-- The listing of the whole log is found, or the store failed, or memory was refused.
abbrev pub Surveys : List Told → Result Catalogued Refusal → Type 0
Surveys events (Ok listing) = IsListingOf events listing
Surveys events (Err refusals.Store) = Unit {0}
Surveys events (Err refusals.OutOfMemory) = Unit {0}
Surveys events (Err refusal) = ⊥
