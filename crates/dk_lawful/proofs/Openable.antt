-- On a lawful log each version from the floor on is kept, and what a cleanup does to the floor.
use Rattle.std.proofs.Common.{◌≡◌, ℕ, zero, suc, ◌+◌, ◌<◌, ◌≤◌, max, ◌⊎◌, inl, inr, Bool, true, false, ◌&&◌, nat_le, List, [], ◌∷◌, ◌++◌, Option, Some, None, option_map, option_and_then, if◌then◌else◌, refl, sym, ap, ap₂, subst, ◌∙◌, arith, true≢false, filter_map}
use Rattle.std.specs.Prelude.{◌==◌, is_some, nat_lt, filter}
use Rattle.std.specs.List.{cons_option}
use Rattle.std.specs.Option.{option_or}
use Rattle.std.proofs.lemmas.Bool.{and_parts, eqb-true, eq-eqb, le-leb, cases_lt, ltb-false, ltb-true}
use Rattle.dk_store.specs.Told.{Told, Made, Over, Deleted, Ratified, Forgotten}
use Rattle.dk_paths.specs.Names.{commit_path}
use Rattle.dk_paths.specs.Places.{Place, Commit_at, Classic, Part, V2, Compacted, Hint, Sidecar, Staged, Other, IsPlace, place_of, place_path}
use Rattle.dk_lawful.specs.declared.segment.Checkpoints.{Checkpoints}
use Rattle.dk_lawful.specs.declared.segment.Checkpoints.TheVariants.{No, Newest}
use Rattle.dk_lawful.specs.declared.segment.Segment.{Segment}
use Rattle.dk_lawful.specs.declared.segment.Step.{Step}
use Rattle.dk_lawful.specs.declared.segment.Step.TheVariants.{Commit}
use Rattle.dk_lawful.specs.Present.{Complete}
use Rattle.dk_lawful.specs.Floor.{IsBelow}
use Rattle.dk_lawful.specs.declared.segment.CheckpointRef.{CheckpointRef}
use Rattle.dk_lawful.specs.Segments.{is_among, commit_place, before_later, steps_from, gap_from, greater, greatest, lesser, least, has_parts, complete_at, is_allowed, parts_at, checkpoint_id_at, classic_ref, parts_ref, v2_ref, by_parts, checkpoint_at, base_of, reached_by, furthest, compacted_step, commit_step, step_at, after_step, before_next, walked_to, or_next, gap_to, version_of, begins_at, steps_of, segment_after}
use Rattle.dk_lawful.specs.Openable.{standing_places, PlainIsByCommits, GoesBelow, CleansBelow, CleanupLeavesFloor, IsNeedless, OthersLeaveFloor}
use Rattle.dk_lawful.proofs.SoundDeleted.{IsApart, Complete_deleted}
use Rattle.dk_lawful.proofs.SoundOthers.{Complete_same, forgotten_same}
use Rattle.dk_lawful.proofs.StandingPlaces.{In, in_is_among, in_filter, of_filter, present_is_in}
use Rattle.dk_lawful.proofs.Stays.{floor_is_upward}

-- ---- elements by a function

in_cons : {Y : Type 0} (first : Option Y) (ys : List Y) (y : Y) → In ys y → In (cons_option first ys) y
in_cons None ys y at = at
in_cons (Some z) ys y at = inr at

at_cons : {Y : Type 0} (first : Option Y) (ys : List Y) (y : Y) → first ≡ Some y → In (cons_option first ys) y
at_cons None ys y is = absurd (let no : ◌≡◌ {A = Option _} None (Some y) = is in cc)
at_cons (Some z) ys y is = inl (let same : z ≡ y = cc in sym same)

of_cons : {Y : Type 0} (first : Option Y) (ys : List Y) (y : Y) → In (cons_option first ys) y → (first ≡ Some y) ⊎ In ys y
of_cons None ys y at = inr at
of_cons (Some z) ys y (inl same) = inl (ap Some (sym same))
of_cons (Some z) ys y (inr at) = inr at

pub in_filter_map : {X Y : Type 0} (f : X → Option Y) (xs : List X) (x : X) (y : Y) → In xs x → f x ≡ Some y → In (filter_map f xs) y
in_filter_map f [] x y at is = absurd at
in_filter_map f (z ∷ xs) x y (inl same) is = at_cons (f z) (filter_map f xs) y (ap f (sym same) ∙ is)
in_filter_map f (z ∷ xs) x y (inr at) is = in_cons (f z) (filter_map f xs) y (in_filter_map f xs x y at is)

pub of_filter_map : {X Y : Type 0} (f : X → Option Y) (xs : List X) (y : Y) → In (filter_map f xs) y → (x : X) × In xs x × (f x ≡ Some y)
of_filter_map f [] y at = absurd at
of_filter_map f (z ∷ xs) y at = by (of_cons (f z) (filter_map f xs) y at) (of_filter_map f xs y)
  where
    by : (f z ≡ Some y) ⊎ In (filter_map f xs) y → (In (filter_map f xs) y → (x : _) × In xs x × (f x ≡ Some y)) → (x : _) × In (z ∷ xs) x × (f x ≡ Some y)
    by (inl is) rest = (z, inl refl, is)
    by (inr at) rest = let (x, there, is) = rest at in (x, inr there, is)

-- ---- the greatest of some numbers is one of them, and none is above it

of_greater : (n : ℕ) (rest : Option ℕ) → (greater n rest ≡ n) ⊎ (rest ≡ Some (greater n rest))
of_greater n None = inl refl
of_greater n (Some m) = elim (cases_lt n m) [
  | inl less ↦ inr (let is : m ≡ max n m = omega arith in ap Some is)
  | inr most ↦ inl (omega arith)
]

pub greatest_in : (ns : List ℕ) (n : ℕ) → greatest ns ≡ Some n → In ns n
greatest_in [] n is = absurd (let no : ◌≡◌ {A = Option ℕ} None (Some n) = is in cc)
greatest_in (m ∷ ns) n is =
    let same : greater m (greatest ns) ≡ n = cc in
    by (of_greater m (greatest ns)) same (greatest_in ns n)
  where
    by : (greater m (greatest ns) ≡ m) ⊎ (greatest ns ≡ Some (greater m (greatest ns))) → greater m (greatest ns) ≡ n → (greatest ns ≡ Some n → In ns n) → In (m ∷ ns) n
    by (inl first) same rest = inl (sym same ∙ first)
    by (inr later) same rest = inr (rest (later ∙ ap Some same))

greater_first : (n : ℕ) (rest : Option ℕ) → n ≤ greater n rest
greater_first n None = omega arith
greater_first n (Some m) = omega arith

greater_rest : (n m : ℕ) (rest : Option ℕ) → rest ≡ Some m → m ≤ greater n rest
greater_rest n m None is = absurd (let no : ◌≡◌ {A = Option ℕ} None (Some m) = is in cc)
greater_rest n m (Some k) is = let same : k ≡ m = cc in omega arith

pub greatest_most : (ns : List ℕ) (m : ℕ) → In ns m → (n : ℕ) × (greatest ns ≡ Some n) × (m ≤ n)
greatest_most [] m at = absurd at
greatest_most (k ∷ ns) m (inl same) = (greater k (greatest ns), refl, (let first = greater_first k (greatest ns) in omega arith))
greatest_most (k ∷ ns) m (inr at) =
    let (n, is, most) = greatest_most ns m at in
    (greater k (greatest ns), refl, (let rest = greater_rest k n (greatest ns) is in omega arith))

least_some : (ns : List ℕ) (m : ℕ) → In ns m → (n : ℕ) × (least ns ≡ Some n)
least_some [] m at = absurd at
least_some (k ∷ ns) m at = (lesser k (least ns), refl)

-- ---- the checkpoint that is chosen

both_are : (a b : Bool) → a ≡ true → b ≡ true → (a && b) ≡ true
both_are true b is other = other
both_are false b is other = absurd (true≢false (sym is))

if_true : {X : Type 0} (b : Bool) (x : X) → b ≡ true → (if b then Some x else None) ≡ Some x
if_true true x is = refl
if_true false x is = absurd (true≢false (sym is))

pub of_if : {X : Type 0} (b : Bool) (x y : X) → (if b then Some x else None) ≡ Some y → (b ≡ true) × (x ≡ y)
of_if true x y is = (refl, cc)
of_if false x y is = absurd (let no : ◌≡◌ {A = Option _} None (Some y) = is in cc)

module _ (places : List Place) where
  abbrev present : Place → Bool
  present = is_among places

  parts_there : (version parts count : ℕ) → ((part : ℕ) → 1 ≤ part → part ≤ count → In places (Part version part parts)) → has_parts present version parts count ≡ true
  unfolding has_parts
  parts_there version parts zero all = refl
  parts_there version parts (suc count) all =
      both_are (present (Part version (suc count) parts)) (has_parts present version parts count) (in_is_among places (Part version (suc count) parts) (all (suc count) (omega arith) (omega arith)))
      (parts_there version parts count (λ part low high. all part low (omega arith)))

  abbrev most_parts : ℕ → Option ℕ
  most_parts version = greatest (filter_map (parts_at present version) places)

  abbrev first_id : ℕ → Option ℕ
  first_id version = least (filter_map (checkpoint_id_at version) places)

  -- a complete checkpoint that begins at a listed place is chosen at its version, or another of this version is
  chosen_at : (place : Place) (version : ℕ) → In places place → complete_at present place ≡ Some version → (checkpoint : CheckpointRef) × (checkpoint_at places version ≡ Some checkpoint)
  chosen_at place version at is = by_classic (present (Classic version)) refl (by_place place at is)
    where
      some_parts : (parts id : Option ℕ) → is_some parts ≡ true → (checkpoint : CheckpointRef) × (by_parts present version parts id ≡ Some checkpoint)
      some_parts None id some = absurd (true≢false (sym some))
      some_parts (Some parts) id some = (parts_ref version parts, refl)

      some_id : (parts id : Option ℕ) → is_some id ≡ true → (checkpoint : CheckpointRef) × (by_parts present version parts id ≡ Some checkpoint)
      some_id None None some = absurd (true≢false (sym some))
      some_id None (Some id) some = (v2_ref version id (present (V2 version id true)), refl)
      some_id (Some parts) id some = (parts_ref version parts, refl)

      by_place : (place : Place) → In places place → complete_at present place ≡ Some version
          → (present (Classic version) ≡ true) ⊎ ((checkpoint : CheckpointRef) × (by_parts present version (most_parts version) (first_id version) ≡ Some checkpoint))
      by_place (Classic v) at is = inl (let same : v ≡ version = cc in ap (λ (n : ℕ). present (Classic n)) (sym same) ∙ in_is_among places (Classic v) at)
      by_place (V2 v id json) at is =
          let same : v ≡ version = cc in
          let (found, is_least) = least_some (filter_map (checkpoint_id_at version) places) id (in_filter_map (checkpoint_id_at version) places (V2 v id json) id at (if_true (v == version) id (eq-eqb v version same))) in
          inr (some_id (most_parts version) (first_id version) (ap (λ (o : Option ℕ). is_some o) is_least))
      by_place (Part v part parts) at is =
          let (tests, same) = of_if ((part == 1) && has_parts present v parts parts) v version is in
          let (found, is_most, above) = greatest_most (filter_map (parts_at present version) places) parts
          (in_filter_map (parts_at present version) places (Part v part parts) parts at (if_true ((v == version) && ((part == 1) && has_parts present v parts parts)) parts
          (both_are (v == version) ((part == 1) && has_parts present v parts parts) (eq-eqb v version same) tests))) in
          inr (some_parts (most_parts version) (first_id version) (ap (λ (o : Option ℕ). is_some o) is_most))
      by_place (Commit_at v) at is = absurd (let no : ◌≡◌ {A = Option ℕ} None (Some version) = is in cc)
      by_place (Compacted first last) at is = absurd (let no : ◌≡◌ {A = Option ℕ} None (Some version) = is in cc)
      by_place Hint at is = absurd (let no : ◌≡◌ {A = Option ℕ} None (Some version) = is in cc)
      by_place (Sidecar name) at is = absurd (let no : ◌≡◌ {A = Option ℕ} None (Some version) = is in cc)
      by_place (Staged v id) at is = absurd (let no : ◌≡◌ {A = Option ℕ} None (Some version) = is in cc)
      by_place (Other path) at is = absurd (let no : ◌≡◌ {A = Option ℕ} None (Some version) = is in cc)

      by_classic : (classic : Bool) → present (Classic version) ≡ classic → (present (Classic version) ≡ true) ⊎ ((checkpoint : CheckpointRef) × (by_parts present version (most_parts version) (first_id version) ≡ Some checkpoint))
          → (checkpoint : CheckpointRef) × ((if classic then Some (classic_ref version) else by_parts present version (most_parts version) (first_id version)) ≡ Some checkpoint)
      by_classic true here found = (classic_ref version, refl)
      by_classic false here (inl is) = absurd (true≢false (sym is ∙ here))
      by_classic false here (inr found) = found

  -- it is of this version
  pub chosen_version : (version : ℕ) (checkpoint : CheckpointRef) → checkpoint_at places version ≡ Some checkpoint → version_of checkpoint ≡ version
  chosen_version version checkpoint is = by (present (Classic version)) (greatest (filter_map (parts_at present version) places)) (least (filter_map (checkpoint_id_at version) places)) is
    where
      at : (found : CheckpointRef) → version_of found ≡ version → Some found ≡ Some checkpoint → version_of checkpoint ≡ version
      at found of_version same = let is_same : found ≡ checkpoint = cc in ap version_of (sym is_same) ∙ of_version

      by : (classic : Bool) (parts id : Option ℕ) → (if classic then Some (classic_ref version) else by_parts present version parts id) ≡ Some checkpoint → version_of checkpoint ≡ version
      by true parts id is = at (classic_ref version) refl is
      by false (Some parts) id is = at (parts_ref version parts) refl is
      by false None (Some id) is = at (v2_ref version id (present (V2 version id true))) refl is
      by false None None is = absurd (let no : ◌≡◌ {A = Option CheckpointRef} None (Some checkpoint) = is in cc)

  -- the base that is chosen, by the newest checkpoint
  pub begins_where : (asked : ℕ) → (c : ℕ) → In (filter_map (complete_at present) places) c → c ≤ asked → suc c ≤ begins_at (base_of places Newest asked)
  begins_where asked c at most =
      let (v, is, above) = greatest_most (filter (is_allowed Newest asked) (filter_map (complete_at present) places)) c
      (in_filter (is_allowed Newest asked) (filter_map (complete_at present) places) c at (le-leb c asked most)) in
      let member = of_filter (is_allowed Newest asked) (filter_map (complete_at present) places) v (greatest_in _ v is) in
      let (place, listed, complete) = of_filter_map (complete_at present) places v member.0 in
      let (checkpoint, chosen) = chosen_at place v listed complete in
      let of_version = chosen_version v checkpoint chosen in
      let based : base_of places Newest asked ≡ Some checkpoint = ap (option_and_then (checkpoint_at places)) is ∙ chosen in
      let starts : begins_at (base_of places Newest asked) ≡ suc v = ap begins_at based ∙ ap suc of_version in
      omega (arith, starts, above)

  -- ---- the walk

  -- where each version has its step, and each step goes on, there is no gap
  pub no_gap_to : (at : ℕ → Option Step) (asked : ℕ) → ((v : ℕ) (s : Step) → at v ≡ Some s → v < after_step s) → (version count : ℕ) → suc asked ≤ version + count
      → ((w : ℕ) → version ≤ w → w ≤ asked → is_some (at w) ≡ true) → gap_to at asked version count ≡ None
  unfolding gap_to
  no_gap_to at asked onward version zero enough all = refl
  no_gap_to at asked onward version (suc count) enough all =
      by (nat_lt asked version) refl (at version) refl (λ next past. no_gap_to at asked onward next count (omega arith) (λ w least. all w (omega arith)))
    where
      by : (beyond : Bool) → nat_lt asked version ≡ beyond → (found : Option Step) → at version ≡ found → ((next : ℕ) → version < next → gap_to at asked next count ≡ None)
          → (if beyond then None else or_next version found (λ next. gap_to at asked next count)) ≡ None
      by true is found here later = refl
      by false is (Some s) here later = later (after_step s) (onward version s here)
      by false is None here later =
          let low : version ≤ asked = ltb-false asked version is in
          absurd (true≢false (sym (all version (omega arith) low) ∙ ap (λ (o : Option Step). is_some o) here))

pub some_of_step : (reach : ℕ → Option ℕ) (place_at : ℕ → Option Place) (version : ℕ) → is_some (place_at version) ≡ true → is_some (step_at reach place_at version) ≡ true
some_of_step reach place_at version some = by (reach version) (place_at version) some
  where
    by : (last : Option ℕ) (place : Option Place) → is_some place ≡ true → is_some (option_or (option_map (compacted_step version) last) (option_map (commit_step version) place)) ≡ true
    by (Some last) place some = refl
    by None (Some place) some = refl
    by None None some = absurd (true≢false (sym some))

pub goes_on : (places : List Place) → ((place : Place) → In places place → IsPlace place) → (allowed : Bool) (asked : ℕ) (place_at : ℕ → Option Place) (v : ℕ) (s : Step)
    → step_at (furthest places allowed asked) place_at v ≡ Some s → v < after_step s
goes_on places are allowed asked place_at v s is = by allowed (greatest (filter_map (reached_by asked v) places)) refl (place_at v) is
  where
    by_commit : (place : Option Place) → option_map (commit_step v) place ≡ Some s → v < after_step s
    by_commit None is = absurd (let no : ◌≡◌ {A = Option Step} None (Some s) = is in cc)
    by_commit (Some place) is = let same : commit_step v place ≡ s = cc in subst (λ (t : Step). v < after_step t) same (omega arith)

    longer : (place : Place) (last : ℕ) → IsPlace place → reached_by asked v place ≡ Some last → v < last
    longer (Compacted first l) last small reaches =
        let (tests, same) = of_if ((first == v) && nat_le l asked) l last reaches in
        let at = eqb-true first v ((and_parts (first == v) (nat_le l asked) tests).0) in
        let less = small.0 in
        omega (arith, at, same, less)
    longer (Commit_at n) last small reaches = absurd (let no : ◌≡◌ {A = Option ℕ} None (Some last) = reaches in cc)
    longer (Classic n) last small reaches = absurd (let no : ◌≡◌ {A = Option ℕ} None (Some last) = reaches in cc)
    longer (Part n part parts) last small reaches = absurd (let no : ◌≡◌ {A = Option ℕ} None (Some last) = reaches in cc)
    longer (V2 n id json) last small reaches = absurd (let no : ◌≡◌ {A = Option ℕ} None (Some last) = reaches in cc)
    longer Hint last small reaches = absurd (let no : ◌≡◌ {A = Option ℕ} None (Some last) = reaches in cc)
    longer (Sidecar name) last small reaches = absurd (let no : ◌≡◌ {A = Option ℕ} None (Some last) = reaches in cc)
    longer (Staged n id) last small reaches = absurd (let no : ◌≡◌ {A = Option ℕ} None (Some last) = reaches in cc)
    longer (Other path) last small reaches = absurd (let no : ◌≡◌ {A = Option ℕ} None (Some last) = reaches in cc)

    by : (allows : Bool) (found : Option ℕ) → greatest (filter_map (reached_by asked v) places) ≡ found → (place : Option Place)
        → option_or (option_map (compacted_step v) (if allows then found else None)) (option_map (commit_step v) place) ≡ Some s → v < after_step s
    by false found reaches place is = by_commit place is
    by true None reaches place is = by_commit place is
    by true (Some last) reaches place is =
        let (listed, at, reach) = of_filter_map (reached_by asked v) places last (greatest_in (filter_map (reached_by asked v) places) last reaches) in
        let past = longer listed last (are listed at) reach in
        let same : compacted_step v last ≡ s = cc in
        subst (λ (t : Step). v < after_step t) same (omega arith)

-- ---- over events

pub complete_is_in : (events : List Told) (c : ℕ) → Complete events c → In (filter_map (complete_at (is_among (standing_places events))) (standing_places events)) c
complete_is_in events c (inl at) =
    in_filter_map (complete_at (is_among (standing_places events))) (standing_places events) (Classic c) c (present_is_in events (Classic c) at) refl
complete_is_in events c (inr (inl (id, (json, at)))) =
    in_filter_map (complete_at (is_among (standing_places events))) (standing_places events) (V2 c id json) c (present_is_in events (V2 c id json) at) refl
complete_is_in events c (inr (inr (parts, some, all))) =
    in_filter_map (complete_at (is_among (standing_places events))) (standing_places events) (Part c 1 parts) c (present_is_in events (Part c 1 parts) (all 1 (omega arith) some))
    (if_true (has_parts (is_among (standing_places events)) c parts parts) c
    (parts_there (standing_places events) c parts parts (λ part low high. present_is_in events (Part c part parts) (all part low high))))

-- ---- by commits alone

none_allowed : (asked : ℕ) (ns : List ℕ) → filter (is_allowed No asked) ns ≡ []
none_allowed asked [] = refl
none_allowed asked (n ∷ ns) = none_allowed asked ns

no_base : (places : List Place) (asked : ℕ) → base_of places No asked ≡ None
no_base places asked = ap (λ (ns : List ℕ). option_and_then (checkpoint_at places) (greatest ns)) (none_allowed asked (filter_map (complete_at (is_among places)) places))

abbrev pub commit_at : (ℕ → Option Place) → ℕ → Option Step
commit_at place_at version = option_map (commit_step version) (place_at version)

walked_plainly : (place_at : ℕ → Option Place) (asked version count : ℕ) → version + count ≡ suc asked → walked_to (commit_at place_at) asked version count ≡ steps_from place_at version count
unfolding walked_to steps_from
walked_plainly place_at asked version zero is = refl
walked_plainly place_at asked version (suc count) is = by (nat_lt asked version) refl (place_at version) (walked_plainly place_at asked (suc version) count (omega arith))
  where
    by : (beyond : Bool) → nat_lt asked version ≡ beyond → (place : Option Place) → walked_to (commit_at place_at) asked (suc version) count ≡ steps_from place_at (suc version) count
        → (if beyond then [] else before_next (option_map (commit_step version) place) (λ next. walked_to (commit_at place_at) asked next count)) ≡ before_later version place (steps_from place_at (suc version) count)
    by true low place rest = absurd (let less : asked < version = ltb-true asked version low in omega (arith, less, is))
    by false low None rest = refl
    by false low (Some place) rest = ap (λ (later : List Step). Commit version (place_path place) ∷ later) rest

gap_plainly : (place_at : ℕ → Option Place) (asked version count : ℕ) → version + count ≡ suc asked → gap_to (commit_at place_at) asked version count ≡ gap_from place_at version count
unfolding gap_to gap_from
gap_plainly place_at asked version zero is = refl
gap_plainly place_at asked version (suc count) is = by (nat_lt asked version) refl (place_at version) (gap_plainly place_at asked (suc version) count (omega arith))
  where
    by : (beyond : Bool) → nat_lt asked version ≡ beyond → (place : Option Place) → gap_to (commit_at place_at) asked (suc version) count ≡ gap_from place_at (suc version) count
        → (if beyond then None else or_next version (option_map (commit_step version) place) (λ next. gap_to (commit_at place_at) asked next count)) ≡ (if is_some place then gap_from place_at (suc version) count else Some version)
    by true low place rest = absurd (let less : asked < version = ltb-true asked version low in omega (arith, less, is))
    by false low None rest = refl
    by false low (Some place) rest = rest

abbrev pub segment_by_steps : List Step → Segment
segment_by_steps steps = record { base = None; steps = steps }

pub plain_is_by_commits : PlainIsByCommits
plain_is_by_commits places ratified version choice no_checkpoints no_compacted =
    let base : base_of places choice.checkpoints version ≡ None = ap (λ (c : Checkpoints). base_of places c version) no_checkpoints ∙ no_base places version in
    let all : version + 1 ≡ suc version = omega arith in
    let from_start : 0 + suc version ≡ suc version = omega arith in (
      ap₂ (λ (b : Option CheckpointRef) (compacted : Bool). segment_after places ratified version (record choice { compacted = compacted }) b) base no_compacted
          ∙ ap (λ (steps : List Step). segment_by_steps steps)
          (walked_plainly (commit_place (is_among places) ratified choice.staged_first) version 0 (suc version) from_start
          ∙ ap (steps_from (commit_place (is_among places) ratified choice.staged_first) 0) (sym all)),
      ap₂ (λ (b : Option CheckpointRef) (compacted : Bool). option_map commit_path (gap_to (steps_of places ratified (record choice { compacted = compacted }) version) version (begins_at b) (suc version))) base no_compacted
          ∙ ap (option_map commit_path)
          (gap_plainly (commit_place (is_among places) ratified choice.staged_first) version 0 (suc version) from_start
          ∙ ap (gap_from (commit_place (is_among places) ratified choice.staged_first) 0) (sym all)),
    )

-- ---- cleanups

apart_below : (place : Place) (cut : ℕ) → GoesBelow place cut → IsApart place cut
apart_below (Classic version) cut below = λ same. omega arith
apart_below (V2 version id json) cut below = λ same. omega arith
apart_below (Part version part parts) cut below = λ same. omega arith
apart_below (Commit_at version) cut below = tt
apart_below (Compacted first last) cut below = tt
apart_below (Staged version id) cut below = tt
apart_below (Sidecar name) cut below = tt
apart_below Hint cut below = tt
apart_below (Other path) cut below = tt

-- the checkpoint of the cut stays
complete_stays : (newer events : List Told) (cut : ℕ) → CleansBelow newer cut → Complete events cut → Complete (newer ++ events) cut
complete_stays [] events cut cleans complete = complete
complete_stays (Deleted path ∷ newer) events cut cleans complete =
    Complete_deleted (newer ++ events) path cut (apart_below (place_of path) cut cleans.0) (complete_stays newer events cut cleans.1 complete)
complete_stays (Forgotten upto ∷ newer) events cut cleans complete =
    Complete_same (newer ++ events) (Forgotten upto ∷ newer ++ events) (forgotten_same (newer ++ events) upto) cut (complete_stays newer events cut cleans complete)
complete_stays (Made path bytes stamp ∷ newer) events cut cleans complete = absurd cleans
complete_stays (Over path bytes stamp ∷ newer) events cut cleans complete = absurd cleans
complete_stays (Ratified version name ∷ newer) events cut cleans complete = absurd cleans

is_below : (events : List Told) (place : Place) (floor cut : ℕ) → GoesBelow place cut → Complete events cut → IsBelow events place (max floor cut)
is_below events (Commit_at version) floor cut below complete = (cut, below, (omega arith), complete)
is_below events (Classic version) floor cut below complete = (cut, below, (omega arith), complete)
is_below events (Part version part parts) floor cut below complete = (cut, below, (omega arith), complete)
is_below events (V2 version id json) floor cut below complete = (cut, below, (omega arith), complete)
is_below events (Compacted first last) floor cut below complete = (cut, below, (omega arith), complete)
is_below events (Staged version id) floor cut below complete = tt
is_below events (Sidecar name) floor cut below complete = tt
is_below events Hint floor cut below complete = tt
is_below events (Other path) floor cut below complete = tt

pub cleanup_leaves_floor : CleanupLeavesFloor
cleanup_leaves_floor [] events floor cut cleans complete from = floor_is_upward events floor (max floor cut) (omega arith) from
cleanup_leaves_floor (Deleted path ∷ newer) events floor cut cleans complete from = (
  is_below (newer ++ events) (place_of path) floor cut cleans.0 (complete_stays newer events cut cleans.1 complete),
  cleanup_leaves_floor newer events floor cut cleans.1 complete from,
)
cleanup_leaves_floor (Forgotten upto ∷ newer) events floor cut cleans complete from = cleanup_leaves_floor newer events floor cut cleans complete from
cleanup_leaves_floor (Made path bytes stamp ∷ newer) events floor cut cleans complete from = absurd cleans
cleanup_leaves_floor (Over path bytes stamp ∷ newer) events floor cut cleans complete from = absurd cleans
cleanup_leaves_floor (Ratified version name ∷ newer) events floor cut cleans complete from = absurd cleans

needless_below : (events : List Told) (place : Place) (version : ℕ) → IsNeedless place → IsBelow events place version
needless_below events (Staged v id) version needless = tt
needless_below events (Sidecar name) version needless = tt
needless_below events Hint version needless = tt
needless_below events (Other path) version needless = tt
needless_below events (Commit_at v) version needless = absurd needless
needless_below events (Classic v) version needless = absurd needless
needless_below events (Part v part parts) version needless = absurd needless
needless_below events (V2 v id json) version needless = absurd needless
needless_below events (Compacted first last) version needless = absurd needless

pub others_leave_floor : OthersLeaveFloor
others_leave_floor [] events version take from = from
others_leave_floor (Deleted path ∷ newer) events version take from =
    (needless_below (newer ++ events) (place_of path) version take.0, others_leave_floor newer events version take.1 from)
others_leave_floor (Made path bytes stamp ∷ newer) events version take from = others_leave_floor newer events version take.1 from
others_leave_floor (Over path bytes stamp ∷ newer) events version take from = others_leave_floor newer events version take.1 from
others_leave_floor (Ratified v name ∷ newer) events version take from = others_leave_floor newer events version take.1 from
others_leave_floor (Forgotten upto ∷ newer) events version take from = others_leave_floor newer events version take.1 from
