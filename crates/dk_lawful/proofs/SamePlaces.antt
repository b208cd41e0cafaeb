-- A segment looks at which places are there and not at their order.
use Rattle.std.proofs.Common.{◌≡◌, ℕ, zero, suc, ◌≤◌, inl, inr, Bool, true, ◌&&◌, List, [], ◌∷◌, Option, Some, None, option_map, option_and_then, if◌then◌else◌, refl, sym, ap, ap₂, ◌∙◌, arith, filter_map}
use Rattle.std.specs.Prelude.{◌==◌}
use Rattle.std.proofs.lemmas.Bool.{cases_lt}
use Rattle.dk_paths.specs.Names.{commit_path}
use Rattle.dk_paths.specs.Places.{Place, Commit_at, Classic, Part, V2, Compacted, Hint, Sidecar, Staged, Other}
use Rattle.dk_lawful.specs.declared.segment.CheckpointRef.{CheckpointRef}
use Rattle.dk_lawful.specs.declared.segment.Checkpoints.{Checkpoints}
use Rattle.dk_lawful.specs.declared.segment.Choice.{Choice}
use Rattle.dk_lawful.specs.declared.segment.Segment.{Segment}
use Rattle.dk_lawful.specs.declared.segment.Step.{Step}
use Rattle.dk_lawful.specs.Segments.{is_among, id_named, published_at, staged_at, preferred, commit_place, greatest, lesser, least, has_parts, complete_at, is_allowed, base_version, parts_at, checkpoint_id_at, classic_ref, v2_ref, by_id, by_parts, checkpoint_at, base_of, reached_by, furthest, step_at, gap_to, begins_at, walked_to, steps_of}
use Rattle.dk_lawful.specs.Openable.{IsReadFrom, SamePlacesReadAlike}
use Rattle.dk_lawful.proofs.StandingPlaces.{In, in_is_among, among_is_in, in_filter, of_filter}
use Rattle.dk_lawful.proofs.Openable.{in_filter_map, of_filter_map, greatest_in, greatest_most}

-- ---- the greatest and the least of numbers that are the same

greatest_alike : (ns ms : List ℕ) → ((n : ℕ) → In ns n → In ms n) → ((n : ℕ) → In ms n → In ns n) → greatest ns ≡ greatest ms
greatest_alike ns ms to back = by (greatest ns) (greatest ms) refl refl
  where
    by : (one other : Option ℕ) → greatest ns ≡ one → greatest ms ≡ other → one ≡ other
    by None None is is_other = refl
    by None (Some m) is is_other =
        let (n, found, most) = greatest_most ns m (back m (greatest_in ms m is_other)) in absurd (let no : ◌≡◌ {A = Option ℕ} None (Some n) = sym is ∙ found in cc)
    by (Some n) None is is_other =
        let (m, found, most) = greatest_most ms n (to n (greatest_in ns n is)) in absurd (let no : ◌≡◌ {A = Option ℕ} None (Some m) = sym is_other ∙ found in cc)
    by (Some n) (Some m) is is_other =
        let (k, found, most) = greatest_most ns m (back m (greatest_in ms m is_other)) in
        let (j, found_other, most_other) = greatest_most ms n (to n (greatest_in ns n is)) in
        let one : k ≡ n = (let both : Some k ≡ Some n = sym found ∙ is in cc) in
        let other : j ≡ m = (let both : Some j ≡ Some m = sym found_other ∙ is_other in cc) in
        let same : n ≡ m = omega (arith, one, other, most, most_other) in
        ap Some same

pub least_in : (ns : List ℕ) (n : ℕ) → least ns ≡ Some n → In ns n
least_in [] n is = absurd (let no : ◌≡◌ {A = Option ℕ} None (Some n) = is in cc)
least_in (m ∷ ns) n is = let same : lesser m (least ns) ≡ n = cc in by (least ns) refl same (least_in ns n)
  where
    by : (rest : Option ℕ) → least ns ≡ rest → lesser m rest ≡ n → (least ns ≡ Some n → In ns n) → In (m ∷ ns) n
    by None at same later = inl (sym same)
    by (Some k) at same later = elim (cases_lt k m) [
      | inl less ↦ inr (later (at ∙ (let is_k : k ≡ n = omega (arith, same, less) in ap Some is_k)))
      | inr most ↦ inl (omega (arith, same, most))
    ]

least_most : (ns : List ℕ) (m : ℕ) → In ns m → (n : ℕ) × (least ns ≡ Some n) × (n ≤ m)
least_most [] m at = absurd at
least_most (k ∷ ns) m (inl same) = (lesser k (least ns), refl, by (least ns))
  where
    by : (rest : Option ℕ) → lesser k rest ≤ m
    by None = omega (arith, same)
    by (Some j) = omega (arith, same)
least_most (k ∷ ns) m (inr at) = let (n, is, most) = least_most ns m at in (lesser k (least ns), refl, by (least ns) n is most)
  where
    by : (rest : Option ℕ) (n : ℕ) → rest ≡ Some n → n ≤ m → lesser k rest ≤ m
    by None n is most = absurd (let no : ◌≡◌ {A = Option ℕ} None (Some n) = is in cc)
    by (Some j) n is most = let same : j ≡ n = cc in omega (arith, same, most)

least_alike : (ns ms : List ℕ) → ((n : ℕ) → In ns n → In ms n) → ((n : ℕ) → In ms n → In ns n) → least ns ≡ least ms
least_alike ns ms to back = by (least ns) (least ms) refl refl
  where
    by : (one other : Option ℕ) → least ns ≡ one → least ms ≡ other → one ≡ other
    by None None is is_other = refl
    by None (Some m) is is_other =
        let (n, found, most) = least_most ns m (back m (least_in ms m is_other)) in absurd (let no : ◌≡◌ {A = Option ℕ} None (Some n) = sym is ∙ found in cc)
    by (Some n) None is is_other =
        let (m, found, most) = least_most ms n (to n (least_in ns n is)) in absurd (let no : ◌≡◌ {A = Option ℕ} None (Some m) = sym is_other ∙ found in cc)
    by (Some n) (Some m) is is_other =
        let (k, found, most) = least_most ns m (back m (least_in ms m is_other)) in
        let (j, found_other, most_other) = least_most ms n (to n (least_in ns n is)) in
        let one : k ≡ n = (let both : Some k ≡ Some n = sym found ∙ is in cc) in
        let other : j ≡ m = (let both : Some j ≡ Some m = sym found_other ∙ is_other in cc) in
        let same : n ≡ m = omega (arith, one, other, most, most_other) in
        ap Some same

-- ---- one way

-- a number that some listed place gives is given by the other list too, where only places that are read from give one
module _ (places others : List Place) (same : (place : Place) → IsReadFrom place → is_among places place ≡ is_among others place) where
  moved : (f g : Place → Option ℕ) → ((place : Place) → f place ≡ g place) → ((place : Place) (n : ℕ) → f place ≡ Some n → IsReadFrom place)
      → (n : ℕ) → In (filter_map f places) n → In (filter_map g others) n
  moved f g alike reads n at =
      let (place, listed, is) = of_filter_map f places n at in
      in_filter_map g others place n (among_is_in others place (sym (same place (reads place n is)) ∙ in_is_among places place listed)) (sym (alike place) ∙ is)

  parts_alike : (version parts count : ℕ) → has_parts (is_among places) version parts count ≡ has_parts (is_among others) version parts count
  unfolding has_parts
  parts_alike version parts zero = refl
  parts_alike version parts (suc count) = ap₂ (λ b c. b && c) (same (Part version (suc count) parts) tt) (parts_alike version parts count)

  complete_alike : (place : Place) → complete_at (is_among places) place ≡ complete_at (is_among others) place
  complete_alike (Part version part parts) = ap (λ (b : Bool). if (part == 1) && b then Some version else None) (parts_alike version parts parts)
  complete_alike (Classic version) = refl
  complete_alike (V2 version id json) = refl
  complete_alike (Commit_at version) = refl
  complete_alike (Compacted first last) = refl
  complete_alike Hint = refl
  complete_alike (Sidecar name) = refl
  complete_alike (Staged version id) = refl
  complete_alike (Other path) = refl

  parts_at_alike : (v : ℕ) (place : Place) → parts_at (is_among places) v place ≡ parts_at (is_among others) v place
  parts_at_alike v (Part version part parts) = ap (λ (b : Bool). if (version == v) && ((part == 1) && b) then Some parts else None) (parts_alike version parts parts)
  parts_at_alike v (Classic version) = refl
  parts_at_alike v (V2 version id json) = refl
  parts_at_alike v (Commit_at version) = refl
  parts_at_alike v (Compacted first last) = refl
  parts_at_alike v Hint = refl
  parts_at_alike v (Sidecar name) = refl
  parts_at_alike v (Staged version id) = refl
  parts_at_alike v (Other path) = refl

none_some : (n : ℕ) → ◌≡◌ {A = Option ℕ} None (Some n) → ⊥
none_some n is = cc

reads_complete : (present : Place → Bool) (place : Place) (n : ℕ) → complete_at present place ≡ Some n → IsReadFrom place
reads_complete present (Part version part parts) n is = tt
reads_complete present (Classic version) n is = tt
reads_complete present (V2 version id json) n is = tt
reads_complete present (Commit_at version) n is = tt
reads_complete present (Compacted first last) n is = tt
reads_complete present Hint n is = none_some n is
reads_complete present (Sidecar name) n is = none_some n is
reads_complete present (Staged version id) n is = tt
reads_complete present (Other path) n is = none_some n is

reads_parts : (present : Place → Bool) (v : ℕ) (place : Place) (n : ℕ) → parts_at present v place ≡ Some n → IsReadFrom place
reads_parts present v (Part version part parts) n is = tt
reads_parts present v (Classic version) n is = tt
reads_parts present v (V2 version id json) n is = tt
reads_parts present v (Commit_at version) n is = tt
reads_parts present v (Compacted first last) n is = tt
reads_parts present v Hint n is = none_some n is
reads_parts present v (Sidecar name) n is = none_some n is
reads_parts present v (Staged version id) n is = tt
reads_parts present v (Other path) n is = none_some n is

reads_id : (v : ℕ) (place : Place) (n : ℕ) → checkpoint_id_at v place ≡ Some n → IsReadFrom place
reads_id v (Part version part parts) n is = tt
reads_id v (Classic version) n is = tt
reads_id v (V2 version id json) n is = tt
reads_id v (Commit_at version) n is = tt
reads_id v (Compacted first last) n is = tt
reads_id v Hint n is = none_some n is
reads_id v (Sidecar name) n is = none_some n is
reads_id v (Staged version id) n is = tt
reads_id v (Other path) n is = none_some n is

reads_reach : (asked v : ℕ) (place : Place) (n : ℕ) → reached_by asked v place ≡ Some n → IsReadFrom place
reads_reach asked v (Part version part parts) n is = tt
reads_reach asked v (Classic version) n is = tt
reads_reach asked v (V2 version id json) n is = tt
reads_reach asked v (Commit_at version) n is = tt
reads_reach asked v (Compacted first last) n is = tt
reads_reach asked v Hint n is = none_some n is
reads_reach asked v (Sidecar name) n is = none_some n is
reads_reach asked v (Staged version id) n is = tt
reads_reach asked v (Other path) n is = none_some n is

-- ---- both ways

module _ (places others : List Place) (same : (place : Place) → IsReadFrom place → is_among places place ≡ is_among others place) where
  back : (place : Place) → IsReadFrom place → is_among others place ≡ is_among places place
  back place reads = sym (same place reads)

  allowed_alike : (allowed : Checkpoints) (asked : ℕ) → base_version places allowed asked ≡ base_version others allowed asked
  allowed_alike allowed asked = greatest_alike _ _
      (λ n at. let both = of_filter (is_allowed allowed asked) (filter_map (complete_at (is_among places)) places) n at in
      in_filter (is_allowed allowed asked) (filter_map (complete_at (is_among others)) others) n
      (moved places others same (complete_at (is_among places)) (complete_at (is_among others)) (complete_alike places others same) (reads_complete (is_among places)) n both.0) both.1)
      (λ n at. let both = of_filter (is_allowed allowed asked) (filter_map (complete_at (is_among others)) others) n at in
      in_filter (is_allowed allowed asked) (filter_map (complete_at (is_among places)) places) n
      (moved others places back (complete_at (is_among others)) (complete_at (is_among places)) (complete_alike others places back) (reads_complete (is_among others)) n both.0) both.1)

  most_alike : (version : ℕ) → greatest (filter_map (parts_at (is_among places) version) places) ≡ greatest (filter_map (parts_at (is_among others) version) others)
  most_alike version = greatest_alike _ _
      (moved places others same (parts_at (is_among places) version) (parts_at (is_among others) version) (parts_at_alike places others same version) (reads_parts (is_among places) version))
      (moved others places back (parts_at (is_among others) version) (parts_at (is_among places) version) (parts_at_alike others places back version) (reads_parts (is_among others) version))

  id_alike : (version : ℕ) → least (filter_map (checkpoint_id_at version) places) ≡ least (filter_map (checkpoint_id_at version) others)
  id_alike version = least_alike _ _ (moved places others same (checkpoint_id_at version) (checkpoint_id_at version) (λ place. refl) (reads_id version)) (moved others places back (checkpoint_id_at version) (checkpoint_id_at version) (λ place. refl) (reads_id version))

  reach_alike : (allowed : Bool) (asked version : ℕ) → furthest places allowed asked version ≡ furthest others allowed asked version
  reach_alike allowed asked version = ap (λ (o : Option ℕ). if allowed then o else None)
      (greatest_alike _ _ (moved places others same (reached_by asked version) (reached_by asked version) (λ place. refl) (reads_reach asked version))
      (moved others places back (reached_by asked version) (reached_by asked version) (λ place. refl) (reads_reach asked version)))

  by_id_alike : (version : ℕ) (id : Option ℕ) → by_id (is_among places) version id ≡ by_id (is_among others) version id
  by_id_alike version None = refl
  by_id_alike version (Some id) = ap (λ (b : Bool). Some (v2_ref version id b)) (same (V2 version id true) tt)

  by_parts_alike : (version : ℕ) (parts id : Option ℕ) → by_parts (is_among places) version parts id ≡ by_parts (is_among others) version parts id
  by_parts_alike version None id = by_id_alike version id
  by_parts_alike version (Some parts) id = refl

  checkpoint_alike : (version : ℕ) → checkpoint_at places version ≡ checkpoint_at others version
  checkpoint_alike version =
      ap₂ (λ (b : Bool) (rest : Option CheckpointRef). if b then Some (classic_ref version) else rest) (same (Classic version) tt)
      (by_parts_alike version (greatest (filter_map (parts_at (is_among places) version) places)) (least (filter_map (checkpoint_id_at version) places))
      ∙ ap₂ (by_parts (is_among others) version) (most_alike version) (id_alike version))

  base_alike : (allowed : Checkpoints) (asked : ℕ) → base_of places allowed asked ≡ base_of others allowed asked
  base_alike allowed asked =
      let both : checkpoint_at places ≡ checkpoint_at others = λ i version. checkpoint_alike version i in
      ap₂ (λ (f : ℕ → Option CheckpointRef) (v : Option ℕ). option_and_then f v) both (allowed_alike allowed asked)

  place_alike : (ratified : ℕ → Option (List ℕ)) (staged_first : Bool) (version : ℕ) → commit_place (is_among places) ratified staged_first version ≡ commit_place (is_among others) ratified staged_first version
  place_alike ratified staged_first version = ap₂ (preferred staged_first) staged published
    where
      published : published_at (is_among places) version ≡ published_at (is_among others) version
      published = ap (λ (there : Bool). if there then Some (Commit_at version) else None) (same (Commit_at version) tt)

      staged : staged_at (is_among places) ratified version ≡ staged_at (is_among others) ratified version
      staged =
          let both : (λ (id : ℕ). is_among places (Staged version id)) ≡ (λ (id : ℕ). is_among others (Staged version id)) = λ i id. same (Staged version id) tt i in
          ap (λ (there : ℕ → Bool). option_and_then (λ id. if there id then Some (Staged version id) else None) (option_and_then (id_named version) (ratified version))) both

  steps_alike : (ratified : ℕ → Option (List ℕ)) (choice : Choice) (asked version : ℕ) → steps_of places ratified choice asked version ≡ steps_of others ratified choice asked version
  steps_alike ratified choice asked version =
      ap₂ (λ (reach : Option ℕ) (place : Option Place). step_at (λ v. reach) (λ v. place) version) (reach_alike choice.compacted asked version) (place_alike ratified choice.staged_first version)

abbrev pub segment_by : (ℕ → Option Step) → ℕ → Option CheckpointRef → Segment
segment_by at asked base = record { base = base; steps = walked_to at asked (begins_at base) (suc asked) }

pub same_places_read_alike : SamePlacesReadAlike
same_places_read_alike places others ratified version choice same =
    let steps : steps_of places ratified choice version ≡ steps_of others ratified choice version = λ i v. steps_alike places others same ratified choice version v i in
    let base = base_alike places others same choice.checkpoints version in (
      ap₂ (λ (at : ℕ → Option Step) (b : Option CheckpointRef). segment_by at version b) steps base,
      ap₂ (λ (at : ℕ → Option Step) (b : Option CheckpointRef). option_map commit_path (gap_to at version (begins_at b) (suc version))) steps base,
    )
