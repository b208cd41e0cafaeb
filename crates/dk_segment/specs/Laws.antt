-- What is chosen by a listing of a store's events is what the events choose.
use Rattle.std.specs.Prelude.{ℕ, ◌≡◌, ◌<◌, ◌^◌, false, List}
use Rattle.dk_store.specs.Told.{Told}
use Rattle.dk_store.specs.Standings.{standing}
use Rattle.dk_lawful.specs.declared.segment.Checkpoints.TheVariants.{No}
use Rattle.dk_lawful.specs.declared.segment.Choice.{Choice}
use Rattle.dk_lawful.specs.Openable.{standing_places}
use Rattle.dk_listing.specs.declared.catalogued.Catalogued.{Catalogued}
use Rattle.dk_listing.specs.OfEvents.{IsListingOf, stands_at}
use Rattle.dk_listing.specs.Presence.{listed_places, ratified_name}
use Rattle.dk_segment.specs.Chosen.{chosen, chosen_segment}

abbrev pub ListingChoosesAlike : Type 0
ListingChoosesAlike = (events : List Told) (listing : Catalogued) → IsListingOf events listing → (version : ℕ) (choice : Choice)
    → chosen_segment (listed_places listing) (ratified_name listing) version choice ≡ chosen_segment (standing_places events) (standing events) version choice

-- where neither a checkpoint nor a compacted file is chosen, it is by the commits that stand
abbrev pub PlainChoosesCommits : Type 0
PlainChoosesCommits = (events : List Told) (version : ℕ) (choice : Choice) → version < 2 ^ 63 → choice.checkpoints ≡ No → choice.compacted ≡ false
    → chosen_segment (standing_places events) (standing events) version choice ≡ chosen (stands_at events) (standing events) version choice
