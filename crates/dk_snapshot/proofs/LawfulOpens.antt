-- What opens of a lawful log.
use Rattle.std.proofs.Common.{◌≡◌, ◌⊎◌, inl, inr, ℕ, zero, suc, ℤ, ◌+◌, ◌<◌, ◌≤◌, Bool, true, false, true≢false, List, take, Option, Some, None, refl, sym, ap, subst, ◌∙◌, arith}
use Rattle.std.specs.Prelude.{Result, Ok, Err, IfSome, IsSome, option_map, nat_le, if◌then◌else◌}
use Rattle.std.proofs.lemmas.Bool.{leb-true}
use Rattle.dk_model.specs.declared.action.Action.{Action}
use Rattle.dk_model.specs.declared.action.Metadata.{Metadata}
use Rattle.dk_model.specs.declared.action.Protocol.{Protocol}
use Rattle.dk_model.specs.declared.state.TableState.{TableState}
use Rattle.dk_model.specs.State.{fold}
use Rattle.dk_features.specs.Support.{unread_name}
use Rattle.dk_store.specs.Told.{Told}
use Rattle.dk_store.specs.Standings.{standing}
use Rattle.dk_paths.specs.Names.{commit_path}
use Rattle.dk_lawful.specs.declared.segment.Choice.{Choice}
use Rattle.dk_lawful.specs.declared.segment.Segment.{Segment}
use Rattle.dk_lawful.specs.Agree.{Agree}
use Rattle.dk_lawful.specs.History.{HasHeads, history, next_version, commits_of, table_at}
use Rattle.dk_lawful.specs.Lawful.{Lawful}
use Rattle.dk_lawful.specs.SoFar.{awaited}
use Rattle.dk_lawful.specs.Written.{is_read_by}
use Rattle.dk_lawful.specs.Segments.{commit_place, commit_gap, gap_from}
use Rattle.dk_lawful.proofs.SegmentSteps.{no_gap}
use Rattle.dk_lawful.proofs.Validly.{table_is_whole}
use Rattle.dk_engine.specs.declared.limits.Limits.{Limits}
use Rattle.dk_engine.specs.declared.limits.Which.TheVariants.{Object}
use Rattle.dk_engine.specs.declared.refusal.Refusal.{Refusal}
use Rattle.dk_engine.specs.declared.refusal.Refusal.TheVariants.{Damaged, Limit, Missing, NoVersion, Unsupported}
use Rattle.dk_listing.specs.OfEvents.{stands_at, latest}
use Rattle.dk_segment.specs.Chosen.{unless_gap}
use Rattle.dk_snapshot.specs.declared.table.Snapshot.{Snapshot}
use Rattle.dk_snapshot.specs.Asked.{version_asked}
use Rattle.dk_snapshot.specs.LawfulOpens.{last_of, AsksVersion, IsKeptBy, segment_by, HasCut, RefusesRetention, RefusesAwaited, RefusesTable, IsNewestOver, AreWithinLimit, AnswersVersion}
use Rattle.dk_snapshot.proofs.Values.{OpenedIsAsked, OpenedIsTable, OpenedHasCut, KeptIsAnswered, GapIsMissing, AboveIsNoVersion, EmptyIsMissing}
use Rattle.dk_snapshot.specs.Opening.{with_cut, state_of_commits, snapshot_with, opened_chosen, opened_version, opened_asked, opened}
use Rattle.dk_snapshot.specs.Steps as reading
use Rattle.dk_snapshot.specs.Steps.{oldest_path}
use Rattle.dk_snapshot.specs.Support.{retention_key, retention, cut_before, cut_unless, cut_with, cut_of}
use Rattle.dk_snapshot.proofs.KeptVersions.{above, opened_is_kept, version_read, within}
use Rattle.dk_snapshot.proofs.LastVersion.{latest_is_last}
use Rattle.dk_snapshot.proofs.LawfulTables.{CanBeRead, awaits_or_none, tables_read}
use Rattle.dk_snapshot.proofs.LawfulReads.{ReadsTo, reads}

-- ---- the cut of a table that has begun

-- there is one, or the table is refused by name
abbrev IsCut : Option Protocol → Option Metadata → Result ℤ Refusal → Type 0
IsCut protocol metadata (Ok cut) = Unit {0}
IsCut protocol metadata (Err (Unsupported name)) = RefusesRetention name metadata ⊎ RefusesAwaited name protocol
IsCut protocol metadata (Err _) = ⊥

unless_is : (p : Protocol) (metadata : Metadata) (found : Option (List ℕ)) (kept : Option ℤ) (now : ℤ) → (found ≡ None) ⊎ (IsSome (awaited (Some p)) × (found ≡ unread_name p)) → retention metadata ≡ kept
    → IsCut (Some p) (Some metadata) (cut_unless found kept now)
unless_is p metadata (Some name) kept now (inl none) is = absurd (let no : ◌≡◌ {A = Option (List ℕ)} (Some name) None = none in cc)
unless_is p metadata (Some name) kept now (inr (awaits, named)) is = inr (awaits, sym named)
unless_is p metadata None None now found is = inl (refl, is)
unless_is p metadata None (Some kept) now found is = tt

heads_cut : (oldest : List ℕ) (state : TableState) (now : ℤ) → HasHeads state → CanBeRead state → IsCut state.protocol state.metadata (cut_of oldest state now)
heads_cut oldest state now heads reads = by state.protocol state.metadata heads.protocol heads.metadata reads.reader
  where
    by : (protocol : Option Protocol) (metadata : Option Metadata) → IsSome protocol → IsSome metadata → IfSome protocol (λ p. is_read_by p ≡ true) → IsCut protocol metadata (cut_with oldest protocol metadata state.files now)
    by None metadata none some reader = absurd (true≢false (sym none))
    by (Some p) None some none reader = absurd (true≢false (sym none))
    by (Some p) (Some m) some_protocol some_metadata reader = unless_is p m _ (retention m) now (awaits_or_none p state.files reader reads.files) refl

-- and it is the moment of the call, less the time that removed files are kept
unless_cut : (metadata : Metadata) (found : Option (List ℕ)) (kept : Option ℤ) (now cut : ℤ) → retention metadata ≡ kept → cut_unless found kept now ≡ Ok cut → HasCut (Some metadata) now cut
unless_cut metadata (Some name) kept now cut is cuts = absurd (let fails : ◌≡◌ {A = Result ℤ Refusal} (Err (Unsupported name)) (Ok cut) = cuts in cc)
unless_cut metadata None None now cut is cuts = absurd (let fails : ◌≡◌ {A = Result ℤ Refusal} (Err (Unsupported retention_key)) (Ok cut) = cuts in cc)
unless_cut metadata None (Some kept) now cut is cuts = (kept, is, ok_same cuts)
  where
    ok_same : ◌≡◌ {A = Result ℤ Refusal} (Ok (cut_before now kept)) (Ok cut) → cut ≡ cut_before now kept
    ok_same e = cc

pub state_cut : (oldest : List ℕ) (state : TableState) (now cut : ℤ) → cut_of oldest state now ≡ Ok cut → HasCut state.metadata now cut
state_cut oldest state now cut cuts = by state.protocol state.metadata cuts
  where
    by : (protocol : Option Protocol) (metadata : Option Metadata) → cut_with oldest protocol metadata state.files now ≡ Ok cut → HasCut metadata now cut
    by (Some p) (Some m) is = unless_cut m _ (retention m) now cut refl is
    by (Some p) None is = absurd (let fails : ◌≡◌ {A = Result ℤ Refusal} (Err (Damaged oldest 0)) (Ok cut) = is in cc)
    by None None is = absurd (let fails : ◌≡◌ {A = Result ℤ Refusal} (Err (Damaged oldest 0)) (Ok cut) = is in cc)
    by None (Some m) is = absurd (let fails : ◌≡◌ {A = Result ℤ Refusal} (Err (Damaged oldest 0)) (Ok cut) = is in cc)

-- ---- a version of the history that is kept

-- the answer is exactly the state of the history's commits, or one of the two refusals
pub record IsExactly (events : List Told) (limits : Limits) (now : ℤ) (version : ℕ) (segment : Segment) (snapshot : Snapshot) : Type 0 where
  pub is_version : snapshot.version ≡ version
  pub is_segment : snapshot.segment ≡ segment
  pub state : snapshot.state ≡ table_at events version
  pub within : AreWithinLimit events limits.object segment.steps
  pub cut : cut_of (oldest_path segment) (table_at events version) now ≡ Ok snapshot.cut

abbrev pub Exactly : List Told → Limits → ℤ → ℕ → Segment → Result Snapshot Refusal → Type 0
Exactly events limits now version segment (Ok snapshot) = IsExactly events limits now version segment snapshot
Exactly events limits now version segment (Err (Limit Object size)) = IsNewestOver events limits.object segment.steps size
Exactly events limits now version segment (Err (Unsupported name)) =
    AreWithinLimit events limits.object segment.steps × RefusesTable name (table_at events version)
Exactly events limits now version segment (Err _) = ⊥

pub agrees_itself : (state whole : TableState) (horizon : ℤ) → state ≡ whole → Agree state whole horizon
agrees_itself state whole horizon same = subst (λ (s : TableState). Agree state s horizon) same (record {
  protocol = refl;
  metadata = refl;
  files = refl;
  applications = refl;
  domains = refl;
  none_more = λ path time is. is;
  unexpired = λ path time is above. is;
})

exactly_answers : (events : List Told) (horizon : ℤ) (limits : Limits) (now : ℤ) (version : ℕ) (segment : Segment) (result : Result Snapshot Refusal) → Exactly events limits now version segment result
    → AnswersVersion events horizon limits now version segment result
exactly_answers events horizon limits now version segment (Ok snapshot) is = record {
  is_version = is.is_version;
  is_segment = is.is_segment;
  state = agrees_itself snapshot.state (table_at events version) horizon is.state;
  within = is.within;
  cut = is.cut;
}
exactly_answers events horizon limits now version segment (Err (Limit Object size)) is = is
exactly_answers events horizon limits now version segment (Err (Unsupported name)) is = is
exactly_answers events horizon limits now version segment (Err _) is = absurd is

-- a segment whose steps are read as these commits, or not read for an object over the limit
read_exactly : (events : List Told) (limits : Limits) (now : ℤ) (version : ℕ) (segment : Segment) → HasHeads (table_at events version) → CanBeRead (table_at events version)
    → ReadsTo events limits.object segment.steps (take (version + 1) (commits_of (history events))) (reading.commits_of_steps events limits.object segment.steps)
    → Exactly events limits now version segment (snapshot_with version segment (state_of_commits (oldest_path segment) now (reading.commits_of_steps events limits.object segment.steps)))
read_exactly events limits now version segment heads can found = by (reading.commits_of_steps events limits.object segment.steps) found
  where
    by_cut : (state : TableState) → state ≡ table_at events version → AreWithinLimit events limits.object segment.steps → (cut : Result ℤ Refusal) → cut_of (oldest_path segment) (table_at events version) now ≡ cut → IsCut (table_at events version).protocol (table_at events version).metadata cut
        → Exactly events limits now version segment (snapshot_with version segment (with_cut state cut))
    by_cut state same all (Ok cut) is fine = record { is_version = refl; is_segment = refl; state = same; within = all; cut = is }
    by_cut state same all (Err (Unsupported name)) is fine = (all, fine)
    by_cut state same all (Err _) is fine = absurd fine

    by : (read : Result (List (List Action)) Refusal) → ReadsTo events limits.object segment.steps (take (version + 1) (commits_of (history events))) read
        → Exactly events limits now version segment (snapshot_with version segment (state_of_commits (oldest_path segment) now read))
    by (Ok commits) reads_them =
        let same : fold commits ≡ table_at events version = ap fold reads_them.0 in
        let oldest : List ℕ = oldest_path segment in
        subst (λ (cut : Result ℤ Refusal). Exactly events limits now version segment (snapshot_with version segment (with_cut (fold commits) cut))) (ap (λ (s : TableState). cut_of oldest s now) (sym same))
        (by_cut (fold commits) same reads_them.1 (cut_of oldest (table_at events version) now) refl (heads_cut oldest (table_at events version) now heads can))
    by (Err (Limit Object size)) reads_them = reads_them
    by (Err _) reads_them = absurd reads_them

no_number : (gap : Option ℕ) → option_map commit_path gap ≡ None → gap ≡ None
no_number None none = refl
no_number (Some version) some = absurd (let no : ◌≡◌ {A = Option (List ℕ)} (Some (commit_path version)) None = some in cc)

module _ (events : List Told) (horizon : ℤ) (lawful : Lawful events horizon) (limits : Limits) (choice : Choice) (now : ℤ) where
  version_exactly : (version : ℕ) → version < next_version events → IsKeptBy events version choice → Exactly events limits now version (segment_by events version choice) (opened_version events limits choice now version)
  version_exactly version below kept =
      let place_at = commit_place (stands_at events) (standing events) choice.staged_first in
      let none : gap_from place_at 0 (version + 1) ≡ None = no_number (gap_from place_at 0 (version + 1)) kept in
      subst (λ (gap : Option (List ℕ)). Exactly events limits now version (segment_by events version choice) (opened_chosen events limits now version (unless_gap (segment_by events version choice) gap))) (sym kept)
      (read_exactly events limits now version (segment_by events version choice) (table_is_whole events horizon lawful version below) (tables_read events horizon lawful version below)
      (reads events horizon lawful choice.staged_first limits.object (version + 1) (omega arith) (λ w less. no_gap place_at 0 (version + 1) none w (omega arith) (omega arith))))

  -- ---- the asked version

  -- the latest version, where the history has so many
  latest_at : (count : ℕ) → next_version events ≡ count → latest events ≡ last_of count
  latest_at count is = latest_is_last events horizon lawful ∙ ap last_of is

  asked_by : (at : Option ℕ) (version count : ℕ) → next_version events ≡ count → AsksVersion events at version → version_asked at (last_of count) ≡ Ok version
  asked_by None version zero is asks = absurd (omega arith)
  asked_by None version (suc last) is asks = let same : last ≡ version = omega arith in ap Ok same
  asked_by (Some asked) version zero is (same, below) = absurd (omega arith)
  asked_by (Some asked) version (suc last) is (same, below) =
      let here : asked ≡ version = sym same in
      ap (λ (v : ℕ). version_asked (Some v) (Some last)) here ∙ within version last (omega arith)

  asked_is : (at : Option ℕ) (version : ℕ) → AsksVersion events at version → version_asked at (latest events) ≡ Ok version
  asked_is at version asks = ap (version_asked at) (latest_at (next_version events) refl) ∙ asked_by at version (next_version events) refl asks

  asks_within : (at : Option ℕ) (version : ℕ) → AsksVersion events at version → version < next_version events
  asks_within None version asks = omega arith
  asks_within (Some asked) version asks = asks.1

  pub opened_exactly : (at : Option ℕ) (version : ℕ) → AsksVersion events at version → IsKeptBy events version choice → Exactly events limits now version (segment_by events version choice) (opened events limits at choice now)
  opened_exactly at version asks kept =
      subst (λ (asked : Result ℕ Refusal). Exactly events limits now version (segment_by events version choice) (opened_asked events limits choice now asked)) (sym (asked_is at version asks))
      (version_exactly version (asks_within at version asks) kept)

  -- ---- what is answered

  last_asks : (last : ℕ) (snapshot : Snapshot) → next_version events ≡ suc last → opened_version events limits choice now last ≡ Ok snapshot → snapshot.version + 1 ≡ next_version events
  last_asks last snapshot is opens = let same : last ≡ snapshot.version = version_read events limits choice now last snapshot opens in omega arith

  at_asks : (asked last : ℕ) (snapshot : Snapshot) (test : Bool) → nat_le asked last ≡ test → next_version events ≡ suc last
      → opened_asked events limits choice now (if test then Ok asked else Err (NoVersion last)) ≡ Ok snapshot → (snapshot.version ≡ asked) × (snapshot.version < next_version events)
  at_asks asked last snapshot true least is opens =
      let same : asked ≡ snapshot.version = version_read events limits choice now asked snapshot opens in
      let most : asked ≤ last = leb-true asked last least in
      (sym same, (omega arith))
  at_asks asked last snapshot false least is opens = absurd (let fails : ◌≡◌ {A = Result Snapshot Refusal} (Err (NoVersion last)) (Ok snapshot) = opens in cc)

  asks_by : (at : Option ℕ) (snapshot : Snapshot) (count : ℕ) → next_version events ≡ count → opened_asked events limits choice now (version_asked at (last_of count)) ≡ Ok snapshot → AsksVersion events at snapshot.version
  asks_by at snapshot zero is opens = absurd (let fails : ◌≡◌ {A = Result Snapshot Refusal} (Err (Missing (commit_path 0))) (Ok snapshot) = opens in cc)
  asks_by None snapshot (suc last) is opens = last_asks last snapshot is opens
  asks_by (Some asked) snapshot (suc last) is opens = at_asks asked last snapshot (nat_le asked last) refl is opens

  asks : (at : Option ℕ) (snapshot : Snapshot) → opened events limits at choice now ≡ Ok snapshot → AsksVersion events at snapshot.version
  asks at snapshot opens =
      asks_by at snapshot (next_version events) refl (ap (λ (l : Option ℕ). opened_asked events limits choice now (version_asked at l)) (sym (latest_at (next_version events) refl)) ∙ opens)

  -- it is exactly the version that was opened
  snapshot_exactly : (at : Option ℕ) (snapshot : Snapshot) → opened events limits at choice now ≡ Ok snapshot → IsExactly events limits now snapshot.version (segment_by events snapshot.version choice) snapshot
  snapshot_exactly at snapshot opens =
      let asked : AsksVersion events at snapshot.version = asks at snapshot opens in
      let kept : IsKeptBy events snapshot.version choice = opened_is_kept events limits at choice now snapshot opens in
      subst (λ (result : Result Snapshot Refusal). Exactly events limits now snapshot.version (segment_by events snapshot.version choice) result) opens (opened_exactly at snapshot.version asked kept)

  cut_is : (at : Option ℕ) (snapshot : Snapshot) → opened events limits at choice now ≡ Ok snapshot → HasCut snapshot.state.metadata now snapshot.cut
  cut_is at snapshot opens =
      let exactly = snapshot_exactly at snapshot opens in
      let oldest : List ℕ = oldest_path (segment_by events snapshot.version choice) in
      state_cut oldest snapshot.state now snapshot.cut (ap (λ (s : TableState). cut_of oldest s now) exactly.state ∙ exactly.cut)

  -- ---- what isn't

  gap_missing : (at : Option ℕ) (version : ℕ) (path : List ℕ) → AsksVersion events at version → commit_gap (stands_at events) (standing events) version choice ≡ Some path → opened events limits at choice now ≡ Err (Missing path)
  gap_missing at version path asks gap =
      ap (opened_asked events limits choice now) (asked_is at version asks)
      ∙ ap (λ (missing : Option (List ℕ)). opened_chosen events limits now version (unless_gap (segment_by events version choice) missing)) gap

  above_none : (last version count : ℕ) → next_version events ≡ count → last + 1 ≡ count → last < version → version_asked (Some version) (last_of count) ≡ Err (NoVersion last)
  above_none last version zero is next more = absurd (omega arith)
  above_none last version (suc most) is next more =
      let same : most ≡ last = omega arith in
      above version most (omega arith) ∙ ap (λ (n : ℕ). Err (NoVersion n)) same

  above_missing : (last version : ℕ) → last + 1 ≡ next_version events → last < version → opened events limits (Some version) choice now ≡ Err (NoVersion last)
  above_missing last version next more =
      ap (opened_asked events limits choice now) (ap (version_asked (Some version)) (latest_at (next_version events) refl) ∙ above_none last version (next_version events) refl next more)

  empty_missing : (at : Option ℕ) → next_version events ≡ 0 → opened events limits at choice now ≡ Err (Missing (commit_path 0))
  empty_missing at none = ap (λ (l : Option ℕ). opened_asked events limits choice now (version_asked at l)) (latest_at 0 none)

-- ---- the laws

pub opened_is_asked : OpenedIsAsked
opened_is_asked events horizon limits at choice now snapshot lawful opens = (asks events horizon lawful limits choice now at snapshot opens, opened_is_kept events limits at choice now snapshot opens)

pub opened_is_table : OpenedIsTable
opened_is_table events horizon limits at choice now snapshot lawful opens =
    let exactly = snapshot_exactly events horizon lawful limits choice now at snapshot opens in exactly.state

pub opened_has_cut : OpenedHasCut
opened_has_cut events horizon limits at choice now snapshot lawful opens = cut_is events horizon lawful limits choice now at snapshot opens

pub kept_is_answered : KeptIsAnswered
kept_is_answered events horizon limits at choice now version lawful asks kept =
    exactly_answers events horizon limits now version (segment_by events version choice) (opened events limits at choice now) (opened_exactly events horizon lawful limits choice now at version asks kept)

pub gap_is_missing : GapIsMissing
gap_is_missing events horizon limits at choice now version path lawful asks gap = gap_missing events horizon lawful limits choice now at version path asks gap

pub above_is_no_version : AboveIsNoVersion
above_is_no_version events horizon limits choice now last version lawful next more = above_missing events horizon lawful limits choice now last version next more

pub empty_is_missing : EmptyIsMissing
empty_is_missing events horizon limits at choice now lawful none = empty_missing events horizon lawful limits choice now at none
