-- The segment of a version with the sizes of its objects, by the events of the store.
use Rattle.std.specs.Prelude.{ℕ, ℤ, ◌≡◌, List, Option, Result, Ok, Err, Vec}
use Rattle.std.specs.Global.{Global}
use Rattle.std.specs.declared.alloc.AllocError.{AllocError}
use Rattle.dk_store.specs.Told.{Told}
use Rattle.dk_store.specs.Standings.{standing}
use Rattle.dk_lawful.specs.declared.segment.Choice.{Choice}
use Rattle.dk_lawful.specs.declared.segment.Segment.{Segment}
use Rattle.dk_engine.specs.declared.limits.Limits.{Limits}
use Rattle.dk_engine.specs.declared.refusal.Refusal.{Refusal}
use Rattle.dk_engine.specs.declared.refusal.Refusal.TheVariants.{OutOfMemory}
use Rattle.dk_engine.specs.Answers.{Refuses}
use Rattle.dk_listing.specs.OfEvents.{stands_at}
use Rattle.dk_segment.specs.Chosen.{chosen}
use Rattle.dk_snapshot.specs.declared.sized_segment.SizedSegment.{SizedSegment}
use Rattle.dk_snapshot.specs.Opening.{opened, opened_segment}
use Rattle.dk_snapshot.specs.Steps.{AreSized}

-- a segment beside the sizes of its objects, if memory suffices for them
abbrev pub sized_with : ℕ → Segment → Result (Vec (Option ℕ) Global) AllocError → Result SizedSegment Refusal
sized_with version segment (Ok sizes) = Ok (record { version = version; segment = segment; sizes = sizes })
sized_with version segment (Err e) = Err OutOfMemory

-- it is the chosen one of the version, with the sizes of what stands; or a refusal that fits
abbrev pub IsSizedSegmentOf : List Told → Choice → ℕ → Result SizedSegment Refusal → Type 0
IsSizedSegmentOf events choice version (Ok sized_segment) =
    (sized_segment.version ≡ version) × (chosen (stands_at events) (standing events) version choice ≡ Ok sized_segment.segment) × AreSized events sized_segment.segment.steps sized_segment.sizes.items
IsSizedSegmentOf events choice version (Err refusal) = Refuses refusal (chosen (stands_at events) (standing events) version choice)

-- the asked version is what is read from it, and it has the sizes of what stands; or a refusal that fits
abbrev pub IsSizedSegmentAt : List Told → Option ℕ → Choice → Result SizedSegment Refusal → Type 0
IsSizedSegmentAt events at choice (Ok sized_segment) =
    ((limits : Limits) (now : ℤ) → opened events limits at choice now ≡ opened_segment events limits now sized_segment.version sized_segment.segment) × AreSized events sized_segment.segment.steps sized_segment.sizes.items
IsSizedSegmentAt events at choice (Err refusal) = (limits : Limits) (now : ℤ) → Refuses refusal (opened events limits at choice now)
