-- The checkpoint that is chosen stands, and on a lawful log each version from the floor on is kept.
use Rattle.std.proofs.Common.{◌≡◌, ℕ, zero, suc, ℤ, ◌≤◌, inl, inr, Bool, true, false, ◌&&◌, nat_le, List, Option, Some, None, option_map, option_and_then, if◌then◌else◌, refl, sym, ap, ap₂, subst, ◌∙◌, arith, true≢false, filter_map}
use Rattle.std.specs.Prelude.{◌==◌}
use Rattle.std.proofs.lemmas.Bool.{and_parts, cases_eq, eqb-true, leb-true}
use Rattle.dk_store.specs.Told.{Told}
use Rattle.dk_store.specs.Standings.{standing}
use Rattle.dk_paths.specs.Names.{commit_path}
use Rattle.dk_paths.specs.Places.{Place, Commit_at, Classic, Part, V2, Compacted, Hint, Sidecar, Staged, Other}
use Rattle.dk_pqmodel.specs.FileMeans.{MeansOneList}
use Rattle.dk_lawful.specs.declared.segment.CheckpointRef.{CheckpointRef}
use Rattle.dk_lawful.specs.declared.segment.Checkpoints.{Checkpoints}
use Rattle.dk_lawful.specs.declared.segment.Checkpoints.TheVariants.{No, Newest, AtMost}
use Rattle.dk_lawful.specs.Present.{Present, Available}
use Rattle.dk_lawful.specs.Lawful.{Lawful}
use Rattle.dk_lawful.specs.Checkpoints.{IsCheckpointOf, object_paths, AllStand}
use Rattle.dk_lawful.specs.Segments.{is_among, commit_place, greatest, least, has_parts, complete_at, is_allowed, base_version, parts_at, checkpoint_id_at, classic_ref, parts_ref, v2_ref, by_parts, checkpoint_at, base_of, furthest, gap_to, version_of, begins_at, steps_of}
use Rattle.dk_lawful.specs.Openable.{standing_places, HasSidecars, BaseStands, EachFromFloorIsKept}
use Rattle.dk_lawful.proofs.CommitsThere.{available_there}
use Rattle.dk_lawful.proofs.Openable.{of_if, of_filter_map, greatest_in, chosen_version, begins_where, no_gap_to, some_of_step, goes_on, complete_is_in}
use Rattle.dk_lawful.proofs.SamePlaces.{least_in}
use Rattle.dk_lawful.proofs.Standing.{held_at, placed}
use Rattle.dk_lawful.proofs.StandingPlaces.{In, in_is_among, among_is_in, of_filter, present_is_in, in_is_present, in_is_place}
use Rattle.dk_lawful.proofs.Stays.{kept_from_floor}
use Rattle.dk_lawful.proofs.WholeCheckpoints.{parts_ref_stands, named_stands}

-- ---- what is chosen stands

module _ (events : List Told) where
  abbrev there : List Place
  there = standing_places events

  there_at : (place : Place) → is_among there place ≡ true → Present events place
  there_at place is = in_is_present events place (among_is_in there place is)

  each_part : (version parts count : ℕ) → has_parts (is_among there) version parts count ≡ true → (part : ℕ) → 1 ≤ part → part ≤ count → Present events (Part version part parts)
  unfolding has_parts
  each_part version parts zero has part low high = absurd (omega (arith, low, high))
  each_part version parts (suc count) has part low high =
      let both = and_parts (is_among there (Part version (suc count) parts)) (has_parts (is_among there) version parts count) has in
      elim (cases_eq part (suc count)) [
        | inl same ↦ subst (λ n. Present events (Part version n parts)) (sym same) (there_at (Part version (suc count) parts) both.0)
        | inr other ↦ each_part version parts count both.1 part low (omega (arith, high, other))
      ]

  abbrev StandsAt : CheckpointRef → ℕ → Type 0
  StandsAt checkpoint version = IsCheckpointOf checkpoint version × AllStand events (object_paths checkpoint)

  classic_stands : (version : ℕ) → is_among there (Classic version) ≡ true → StandsAt (classic_ref version) version
  classic_stands version is =
      let (bytes, holds) = there_at (Classic version) is in ((refl, placed events (Classic version) bytes holds), ((bytes, held_at events (Classic version) bytes holds), tt))

  parts_stand_at : (version parts : ℕ) → greatest (filter_map (parts_at (is_among there) version) there) ≡ Some parts → StandsAt (parts_ref version parts) version
  parts_stand_at version parts is =
      let (place, listed, at) = of_filter_map (parts_at (is_among there) version) there parts (greatest_in (filter_map (parts_at (is_among there) version) there) parts is) in
      by place (in_is_present events place listed) at
    where
      none_at : {A : Type 0} → ◌≡◌ {A = Option ℕ} None (Some parts) → A
      none_at is = absurd (let no : ◌≡◌ {A = Option ℕ} None (Some parts) = is in cc)

      by : (place : Place) → Present events place → parts_at (is_among there) version place ≡ Some parts → StandsAt (parts_ref version parts) version
      by (Part v part count) stands at =
          let (tests, same) = of_if ((v == version) && ((part == 1) && has_parts (is_among there) v count count)) count parts at in
          let outer = and_parts (v == version) ((part == 1) && has_parts (is_among there) v count count) tests in
          let inner = and_parts (part == 1) (has_parts (is_among there) v count count) outer.1 in
          let whole : has_parts (is_among there) version parts parts ≡ true =
          ap₂ (λ m n. has_parts (is_among there) m n n) (sym (eqb-true v version outer.0)) (sym same) ∙ inner.1 in
          parts_ref_stands events version parts (subst (λ n. 1 ≤ n) same (some_part v part count stands (eqb-true part 1 inner.0)), each_part version parts parts whole)
        where
          some_part : (v part count : ℕ) → Present events (Part v part count) → part ≡ 1 → 1 ≤ count
          some_part v part count (bytes, holds) first = let is = in_is_place events (Part v part count) (present_is_in events (Part v part count) (bytes, holds)) in let least = is.1.first in let most = is.1.last in omega (arith, least, most)
      by (Commit_at v) stands at = none_at at
      by (Classic v) stands at = none_at at
      by (V2 v id json) stands at = none_at at
      by (Compacted first last) stands at = none_at at
      by Hint stands at = none_at at
      by (Sidecar name) stands at = none_at at
      by (Staged v id) stands at = none_at at
      by (Other path) stands at = none_at at

  v2_stands : (version id : ℕ) → least (filter_map (checkpoint_id_at version) there) ≡ Some id → StandsAt (v2_ref version id (is_among there (V2 version id true))) version
  v2_stands version id is =
      let (place, listed, at) = of_filter_map (checkpoint_id_at version) there id (least_in (filter_map (checkpoint_id_at version) there) id is) in
      by_json (is_among there (V2 version id true)) refl (by place listed at)
    where
      none_at : {A : Type 0} → ◌≡◌ {A = Option ℕ} None (Some id) → A
      none_at is = absurd (let no : ◌≡◌ {A = Option ℕ} None (Some id) = is in cc)

      by : (place : Place) → In there place → checkpoint_id_at version place ≡ Some id → (json : Bool) × In there (V2 version id json)
      by (V2 v i json) listed at =
          let (same, is_id) = of_if (v == version) i id at in (json, subst (In there) (ap₂ (λ m n. V2 m n json) (eqb-true v version same) is_id) listed)
      by (Commit_at v) listed at = none_at at
      by (Classic v) listed at = none_at at
      by (Part v part count) listed at = none_at at
      by (Compacted first last) listed at = none_at at
      by Hint listed at = none_at at
      by (Sidecar name) listed at = none_at at
      by (Staged v i) listed at = none_at at
      by (Other path) listed at = none_at at

      at_place : (json : Bool) → Present events (V2 version id json) → StandsAt (v2_ref version id json) version
      at_place json (bytes, holds) = ((refl, (id, placed events (V2 version id json) bytes holds)), ((bytes, held_at events (V2 version id json) bytes holds), tt))

      -- what isn't there in JSON is there in Parquet
      by_json : (json : Bool) → is_among there (V2 version id true) ≡ json → (found : Bool) × In there (V2 version id found) → StandsAt (v2_ref version id json) version
      by_json true is found = at_place true (there_at (V2 version id true) is)
      by_json false is (false, listed) = at_place false (in_is_present events (V2 version id false) listed)
      by_json false is (true, listed) = absurd (true≢false (sym (in_is_among there (V2 version id true) listed) ∙ is))

  chosen_stands : (version : ℕ) (checkpoint : CheckpointRef) → checkpoint_at there version ≡ Some checkpoint → StandsAt checkpoint version
  chosen_stands version checkpoint is = by (is_among there (Classic version)) refl (greatest (filter_map (parts_at (is_among there) version) there)) refl (least (filter_map (checkpoint_id_at version) there)) refl is
    where
      same_ref : (found : CheckpointRef) → Some found ≡ Some checkpoint → StandsAt found version → StandsAt checkpoint version
      same_ref found same stands = let is_same : found ≡ checkpoint = cc in subst (λ (c : CheckpointRef). StandsAt c version) is_same stands

      by : (classic : Bool) → is_among there (Classic version) ≡ classic → (parts : Option ℕ) → greatest (filter_map (parts_at (is_among there) version) there) ≡ parts
          → (id : Option ℕ) → least (filter_map (checkpoint_id_at version) there) ≡ id → (if classic then Some (classic_ref version) else by_parts (is_among there) version parts id) ≡ Some checkpoint
          → StandsAt checkpoint version
      by true here parts most id first is = same_ref (classic_ref version) is (classic_stands version here)
      by false here (Some parts) most id first is = same_ref (parts_ref version parts) is (parts_stand_at version parts most)
      by false here None most (Some id) first is = same_ref (v2_ref version id (is_among there (V2 version id true))) is (v2_stands version id first)
      by false here None most None first is = absurd (let no : ◌≡◌ {A = Option CheckpointRef} None (Some checkpoint) = is in cc)

allowed_most : (allowed : Checkpoints) (asked version : ℕ) → is_allowed allowed asked version ≡ true → version ≤ asked
allowed_most No asked version is = absurd (true≢false (sym is))
allowed_most Newest asked version is = leb-true version asked is
allowed_most (AtMost most) asked version is = leb-true version asked ((and_parts (nat_le version asked) (nat_le version most) is).0)

pub base_stands : BaseStands
base_stands events allowed asked checkpoint is = by (base_version (standing_places events) allowed asked) refl is
  where
    by : (found : Option ℕ) → base_version (standing_places events) allowed asked ≡ found → option_and_then (checkpoint_at (standing_places events)) found ≡ Some checkpoint
        → IsCheckpointOf checkpoint (version_of checkpoint) × (version_of checkpoint ≤ asked) × AllStand events (object_paths checkpoint)
    by None at is = absurd (let no : ◌≡◌ {A = Option CheckpointRef} None (Some checkpoint) = is in cc)
    by (Some v) at is =
        let of_version = chosen_version (standing_places events) v checkpoint is in
        let stands = chosen_stands events v checkpoint is in
        let member = of_filter (is_allowed allowed asked) (filter_map (complete_at (is_among (standing_places events))) (standing_places events)) v (greatest_in _ v at) in
        let most = allowed_most allowed asked v member.1 in
        (subst (IsCheckpointOf checkpoint) (sym of_version) stands.0, (omega (arith, of_version, most)), stands.1)

-- whichever checkpoint is chosen, the sidecars that it names stand
sides_there : MeansOneList → (events : List Told) (horizon : ℤ) → Lawful events horizon → (allowed : Checkpoints) (asked : ℕ) (base : Option CheckpointRef)
    → base_of (standing_places events) allowed asked ≡ base → HasSidecars events base
sides_there one events horizon lawful allowed asked None is = tt
sides_there one events horizon lawful allowed asked (Some checkpoint) is = λ name (top, means, among).
    named_stands one events horizon lawful checkpoint (version_of checkpoint) ((base_stands events allowed asked checkpoint is).0) top means name among

pub each_from_floor_is_kept : MeansOneList → EachFromFloorIsKept
each_from_floor_is_kept one events horizon version choice lawful below floor newest = record {
  no_gap = ap (option_map commit_path) none;
  sidecars = sides_there one events horizon lawful choice.checkpoints version (base_of (standing_places events) choice.checkpoints version) refl;
}
  where
    readable : (w : ℕ) → begins_at (base_of (standing_places events) choice.checkpoints version) ≤ w → w ≤ version → Available events w
    readable w least most = elim (kept_from_floor events horizon lawful w version (omega arith) floor) [
      | inl available ↦ available
      | inr (checkpoint, low, high, complete) ↦
          let past = begins_where (standing_places events) version checkpoint (complete_is_in events checkpoint complete) high in
          let same : begins_at (base_of (standing_places events) choice.checkpoints version) ≡ begins_at (base_of (standing_places events) Newest version) =
          ap (λ (c : Checkpoints). begins_at (base_of (standing_places events) c version)) newest in
          absurd (omega (arith, past, same, least, low))
    ]

    none : gap_to (steps_of (standing_places events) (standing events) choice version) version (begins_at (base_of (standing_places events) choice.checkpoints version)) (suc version) ≡ None
    none =
        no_gap_to (standing_places events) (steps_of (standing_places events) (standing events) choice version) version
        (λ v s is. goes_on (standing_places events) (in_is_place events) choice.compacted version (commit_place (is_among (standing_places events)) (standing events) choice.staged_first) v s is)
        (begins_at (base_of (standing_places events) choice.checkpoints version)) (suc version) (omega arith)
        (λ w least most. some_of_step (furthest (standing_places events) choice.compacted version) (commit_place (is_among (standing_places events)) (standing events) choice.staged_first) w
        (available_there events (is_among (standing_places events)) (λ place at. in_is_among (standing_places events) place (present_is_in events place at)) choice.staged_first w (readable w least most)))
