-- The latest version of a listing is that of its content, so over a told store it is that of the events.
use Rattle.std.proofs.Common.{◌≡◌, ℕ, Bool, List, map, ap, ap₂, sym, ◌∙◌}
use Rattle.std.specs.Prelude.{Option, Some, None}
use Rattle.std.proofs.lemmas.List.Folds.{fold-map}
use Rattle.dk_store.specs.Told.{Told, Listed}
use Rattle.dk_store.specs.declared.event.Ratification.{Ratification}
use Rattle.dk_store.specs.Views.{ratification}
use Rattle.dk_paths.specs.declared.log_name.LogName.{LogName}
use Rattle.dk_listing.specs.declared.catalogued.Catalogued.{Catalogued}
use Rattle.dk_listing.specs.declared.named.Named.{Named}
use Rattle.dk_listing.specs.Entries.{named_entry}
use Rattle.dk_listing.specs.Newest.{later, newest_by, commit_version, complete_version, is_part, lists_part}
use Rattle.dk_listing.specs.Latest.{latest_of, latest_among, part_among}
use Rattle.dk_listing.specs.OfEvents.{IsListingOf, latest}
use Rattle.dk_listing.proofs.Standing.{any_map}

pub newest_map : {X Y : Type 0} (version : Y → Option ℕ) (view : X → Y) (xs : List X) → newest_by version (map view xs) ≡ newest_by (λ x. version (view x)) xs
newest_map version view xs = fold-map (λ best y. later best (version y)) view None xs

-- the parts that are listed, by content
parts_same : (log : List Named) → lists_part log ≡ part_among (map named_entry log)
parts_same log = λ i version parts part. sym (any_map named_entry (λ (entry : LogName × Listed). is_part version parts part entry.0) log) i

pub latest_by_content : (listing : Catalogued) → latest_of listing ≡ latest_among (map named_entry listing.log.items) (map ratification listing.ratified.items)
latest_by_content listing =
    let log : List Named = listing.log.items in
    let content : List (LogName × Listed) = map named_entry log in
    let commits : newest_by (λ (named : Named). commit_version named.name) log ≡ newest_by (λ (entry : LogName × Listed). commit_version entry.0) content =
    sym (newest_map (λ (entry : LogName × Listed). commit_version entry.0) named_entry log) in
    let checkpoints : newest_by (λ (named : Named). complete_version (lists_part log) named.name) log ≡ newest_by (λ (entry : LogName × Listed). complete_version (part_among content) entry.0) content =
    ap (λ (has : ℕ → ℕ → ℕ → Bool). newest_by (λ (named : Named). complete_version has named.name) log) (parts_same log)
    ∙ sym (newest_map (λ (entry : LogName × Listed). complete_version (part_among content) entry.0) named_entry log) in
    let ratified : newest_by (λ (r : Ratification). Some r.version) listing.ratified.items ≡ newest_by (λ (r : ℕ × List ℕ). Some r.0) (map ratification listing.ratified.items) =
    sym (newest_map (λ (r : ℕ × List ℕ). Some r.0) ratification listing.ratified.items) in
    ap₂ later (ap₂ later commits checkpoints) ratified

-- the latest version of the listing that a store answers is that of its events
pub latest_standing : (events : List Told) (listing : Catalogued) → IsListingOf events listing → latest_of listing ≡ latest events
latest_standing events listing is = latest_by_content listing ∙ ap₂ latest_among is.log is.ratified
