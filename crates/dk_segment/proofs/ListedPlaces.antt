-- The places of a listing are those that it lists, and what is chosen of them is chosen by names.
use Rattle.std.proofs.Common.{◌≡◌, ℕ, zero, suc, List, [], ◌∷◌, map, Bool, true, false, if◌then◌else◌, refl, sym, ap, ap₂, ◌∙◌}
use Rattle.std.specs.Prelude.{Option, Some, None, is_some, option_and_then, filter, ◌==◌, ◌&&◌, ◌||◌}
use Rattle.std.specs.List.{cons_option, filter_map, list_any}
use Rattle.std.proofs.lemmas.List.Folds.{list_any-append}
use Rattle.dk_paths.specs.declared.log_name.LogName.{LogName}
use Rattle.dk_paths.specs.declared.log_name.LogName.TheVariants as names
use Rattle.dk_paths.specs.Places.{Place, Commit_at, Classic, Part, V2, Compacted, Hint, Sidecar, Staged, Other}
use Rattle.dk_lawful.specs.declared.segment.CheckpointRef.{CheckpointRef}
use Rattle.dk_lawful.specs.declared.segment.Checkpoints.{Checkpoints}
use Rattle.dk_lawful.specs.Segments.{is_same_place, is_among, has_parts, complete_at, is_allowed, parts_at, checkpoint_id_at, by_parts, classic_ref, checkpoint_at, base_of, reached_by, furthest, greatest, least}
use Rattle.dk_listing.specs.declared.catalogued.Catalogued.{Catalogued}
use Rattle.dk_listing.specs.declared.named.Named.{Named}
use Rattle.dk_listing.specs.declared.named.Staged as entries
use Rattle.dk_listing.specs.Newest.{all_up_to, is_part, lists_part, complete_version, complete_checkpoints, newest_by}
use Rattle.dk_listing.specs.Presence.{is_at, lists, lists_in_log, listed_places, named_place}
use Rattle.dk_listing.proofs.Standing.{any_map, any_same, any_filter_map, passes}
use Rattle.dk_segment.specs.Places.{if_choice_allows, allowed_version, parts_of_checkpoint, id_of_name, earliest_by, taken_at, base_listed, reached_by_name, reached_in}
use Rattle.dk_segment.proofs.Best.{newest_is_greatest, newest_of_complete, earliest_is_least, earliest_of_complete, of_places}

-- ---- one place

same_at : (place : Place) (name : LogName) → passes (is_same_place place) (named_place name) ≡ is_at place name
same_at (Commit_at version) (names.Commit v) = refl
same_at (Classic version) (names.Classic v) = refl
same_at (Part version part parts) (names.Part v o p) = refl
same_at (V2 version id true) (names.V2Json v i) = refl
same_at (V2 version id true) (names.V2Parquet v i) = refl
same_at (V2 version id false) (names.V2Json v i) = refl
same_at (V2 version id false) (names.V2Parquet v i) = refl
same_at (Compacted first last) (names.Compacted x y) = refl
same_at Hint names.Hint = refl
same_at (Sidecar name) (names.Commit v) = refl
same_at (Staged version id) (names.Commit v) = refl
same_at (Other path) (names.Commit v) = refl
same_at _ _ = refl

none_any : {X : Type 0} (xs : List X) → list_any (λ (x : X). false) xs ≡ false
none_any [] = refl
none_any (x ∷ xs) = none_any xs

or_false : (a : Bool) → (a || false) ≡ a
or_false true = refl
or_false false = refl

module _ (listing : Catalogued) where
  log : List Named
  log = listing.log.items

  staged : List entries.Staged
  staged = listing.staged.items

  in_both : (place : Place) → is_among (listed_places listing) place ≡ (lists_in_log listing.log.items place || list_any (λ (s : entries.Staged). is_same_place place (Staged s.version s.id)) listing.staged.items)
  in_both place =
      list_any-append (is_same_place place) (filter_map (λ (n : Named). named_place n.name) listing.log.items) (map (λ (s : entries.Staged). Staged s.version s.id) listing.staged.items)
      ∙ ap₂ (λ (a b : Bool). a || b)
      (any_filter_map (λ (n : Named). named_place n.name) (is_same_place place) listing.log.items
      ∙ any_same (λ (n : Named). passes (is_same_place place) (named_place n.name)) (λ (n : Named). is_at place n.name) (λ n. same_at place n.name) listing.log.items)
      (any_map (λ (s : entries.Staged). Staged s.version s.id) (is_same_place place) listing.staged.items)

  log_alone : (place : Place) → list_any (λ (s : entries.Staged). is_same_place place (Staged s.version s.id)) listing.staged.items ≡ false
      → is_among (listed_places listing) place ≡ lists_in_log listing.log.items place
  log_alone place none = in_both place ∙ ap (λ (b : Bool). lists_in_log listing.log.items place || b) none ∙ or_false (lists_in_log listing.log.items place)

  pub among_listed : (place : Place) → is_among (listed_places listing) place ≡ lists listing place
  among_listed (Commit_at version) = log_alone (Commit_at version) (none_any listing.staged.items)
  among_listed (Classic version) = log_alone (Classic version) (none_any listing.staged.items)
  among_listed (Part version part parts) = log_alone (Part version part parts) (none_any listing.staged.items)
  among_listed (V2 version id true) = log_alone (V2 version id true) (none_any listing.staged.items)
  among_listed (V2 version id false) = log_alone (V2 version id false) (none_any listing.staged.items)
  among_listed (Compacted first last) = log_alone (Compacted first last) (none_any listing.staged.items)
  among_listed Hint = log_alone Hint (none_any listing.staged.items)
  among_listed (Staged version id) =
      in_both (Staged version id) ∙ ap (λ (b : Bool). b || list_any (λ (s : entries.Staged). s.version == version && s.id == id) listing.staged.items) (none_any listing.log.items)
  among_listed (Sidecar name) = log_alone (Sidecar name) (none_any listing.staged.items) ∙ none_any listing.log.items
  among_listed (Other path) = log_alone (Other path) (none_any listing.staged.items) ∙ none_any listing.log.items

  pub among_is : is_among (listed_places listing) ≡ lists listing
  among_is = λ i place. among_listed place i

-- ---- parts

and_comm : (a b : Bool) → (a && b) ≡ (b && a)
and_comm true true = refl
and_comm true false = refl
and_comm false true = refl
and_comm false false = refl

part_at : (version part parts : ℕ) (name : LogName) → is_at (Part version part parts) name ≡ is_part version parts part name
part_at version part parts (names.Part v o p) = ap (λ (b : Bool). v == version && b) (and_comm (o == part) (p == parts))
part_at version part parts (names.Commit v) = refl
part_at version part parts (names.Classic v) = refl
part_at version part parts (names.V2Json v i) = refl
part_at version part parts (names.V2Parquet v i) = refl
part_at version part parts (names.Compacted x y) = refl
part_at version part parts names.Hint = refl
part_at version part parts names.Other = refl

parts_listed : (listing : Catalogued) (version parts count : ℕ) → has_parts (lists listing) version parts count ≡ all_up_to (lists_part listing.log.items version parts) count
unfolding has_parts all_up_to
parts_listed listing version parts zero = refl
parts_listed listing version parts (suc part) = ap₂ (λ (a b : Bool). a && b)
    (any_same (λ (n : Named). is_at (Part version (suc part) parts) n.name) (λ (n : Named). is_part version parts (suc part) n.name) (λ n. part_at version (suc part) parts n.name) listing.log.items)
    (parts_listed listing version parts part)

-- ---- by names

-- where its first name begins a complete checkpoint
abbrev if_begins : (ℕ → ℕ → ℕ → Bool) → (LogName → Option ℕ) → LogName → Option ℕ
if_begins has g name = if is_some (complete_version has name) then g name else None

filter_found : (test : ℕ → Bool) (f : Place → Option ℕ) (allow : Option ℕ → Option ℕ) → allow None ≡ None → ((n : ℕ) → allow (Some n) ≡ (if test n then Some n else None)) → (xs : List Place)
    → filter test (filter_map f xs) ≡ filter_map (λ x. allow (f x)) xs
filter_found test f allow none some [] = refl
filter_found test f allow none some (x ∷ xs) = by (f x) (filter_found test f allow none some xs)
  where
    tested : (n : ℕ) (b : Bool) (rest : List ℕ) → (if b then n ∷ rest else rest) ≡ cons_option (if b then Some n else None) rest
    tested n true rest = refl
    tested n false rest = refl

    by : (found : Option ℕ) → filter test (filter_map f xs) ≡ filter_map (λ x. allow (f x)) xs → filter test (cons_option found (filter_map f xs)) ≡ cons_option (allow found) (filter_map (λ x. allow (f x)) xs)
    by None rest = rest ∙ ap (λ (o : Option ℕ). cons_option o (filter_map (λ x. allow (f x)) xs)) (sym none)
    by (Some n) rest =
        tested n (test n) (filter test (filter_map f xs)) ∙ ap₂ cons_option (sym (some n)) rest

module _ (listing : Catalogued) where
  abbrev has : ℕ → ℕ → ℕ → Bool
  has = lists_part listing.log.items

  abbrev here : Place → Bool
  here = lists listing

  allowed_name : (allowed : Checkpoints) (asked : ℕ) (name : LogName) → option_and_then (λ place. if_choice_allows allowed asked (complete_at here place)) (named_place name) ≡ if_begins has (allowed_version allowed asked) name
  allowed_name allowed asked (names.Part v part parts) =
      ap (λ (b : Bool). if_choice_allows allowed asked (if part == 1 && b then Some v else None)) (parts_listed listing v parts parts) ∙ by (part == 1 && all_up_to (has v parts) parts)
    where
      by : (all : Bool) → if_choice_allows allowed asked (if all then Some v else None) ≡ (if is_some (if all then Some v else None) then if_choice_allows allowed asked (Some v) else None)
      by true = refl
      by false = refl
  allowed_name allowed asked (names.Commit v) = refl
  allowed_name allowed asked (names.Classic v) = refl
  allowed_name allowed asked (names.V2Json v i) = refl
  allowed_name allowed asked (names.V2Parquet v i) = refl
  allowed_name allowed asked (names.Compacted x y) = refl
  allowed_name allowed asked names.Hint = refl
  allowed_name allowed asked names.Other = refl

  version_listed : (allowed : Checkpoints) (asked : ℕ) → newest_by (allowed_version allowed asked) (complete_checkpoints listing.log.items) ≡ greatest (filter (is_allowed allowed asked) (filter_map (complete_at here) (listed_places listing)))
  version_listed allowed asked =
      newest_of_complete has (allowed_version allowed asked) listing.log.items
      ∙ newest_is_greatest (λ (n : Named). if_begins has (allowed_version allowed asked) n.name) listing.log.items
      ∙ ap greatest (sym (of_places (λ place. if_choice_allows allowed asked (complete_at here place)) (if_begins has (allowed_version allowed asked)) (allowed_name allowed asked) (λ v i. refl) listing.log.items listing.staged.items))
      ∙ ap greatest (sym (filter_found (is_allowed allowed asked) (complete_at here) (if_choice_allows allowed asked) refl (λ n. refl) (listed_places listing)))

  parts_name : (version : ℕ) (name : LogName) → option_and_then (parts_at here version) (named_place name) ≡ if_begins has (parts_of_checkpoint version) name
  parts_name version (names.Part v part parts) =
      ap (λ (b : Bool). if v == version && (part == 1 && b) then Some parts else None) (parts_listed listing v parts parts) ∙ by (v == version) (part == 1 && all_up_to (has v parts) parts)
    where
      by : (own all : Bool) → (if own && all then Some parts else None) ≡ (if is_some (if all then Some v else None) then (if own then Some parts else None) else None)
      by true true = refl
      by true false = refl
      by false true = refl
      by false false = refl
  parts_name version (names.Commit v) = refl
  parts_name version (names.Classic v) = refl
  parts_name version (names.V2Json v i) = refl
  parts_name version (names.V2Parquet v i) = refl
  parts_name version (names.Compacted x y) = refl
  parts_name version names.Hint = refl
  parts_name version names.Other = refl

  most_listed : (version : ℕ) → newest_by (parts_of_checkpoint version) (complete_checkpoints listing.log.items) ≡ greatest (filter_map (parts_at here version) (listed_places listing))
  most_listed version =
      newest_of_complete has (parts_of_checkpoint version) listing.log.items
      ∙ newest_is_greatest (λ (n : Named). if_begins has (parts_of_checkpoint version) n.name) listing.log.items
      ∙ ap greatest (sym (of_places (parts_at here version) (if_begins has (parts_of_checkpoint version)) (parts_name version) (λ v i. refl) listing.log.items listing.staged.items))

  id_name : (version : ℕ) (name : LogName) → option_and_then (checkpoint_id_at version) (named_place name) ≡ if_begins has (id_of_name version) name
  id_name version (names.Part v part parts) = by (part == 1 && all_up_to (has v parts) parts)
    where
      by : (all : Bool) → ◌≡◌ {A = Option ℕ} None (if is_some (if all then Some v else None) then None else None)
      by true = refl
      by false = refl
  id_name version (names.Commit v) = refl
  id_name version (names.Classic v) = refl
  id_name version (names.V2Json v i) = refl
  id_name version (names.V2Parquet v i) = refl
  id_name version (names.Compacted x y) = refl
  id_name version names.Hint = refl
  id_name version names.Other = refl

  least_listed : (version : ℕ) → earliest_by (id_of_name version) (complete_checkpoints listing.log.items) ≡ least (filter_map (checkpoint_id_at version) (listed_places listing))
  least_listed version =
      earliest_of_complete has (id_of_name version) listing.log.items
      ∙ earliest_is_least (λ (n : Named). if_begins has (id_of_name version) n.name) listing.log.items
      ∙ ap least (sym (of_places (checkpoint_id_at version) (if_begins has (id_of_name version)) (id_name version) (λ v i. refl) listing.log.items listing.staged.items))

  -- the checkpoint at a version, where places are told by any test
  abbrev at_by : (Place → Bool) → ℕ → Option CheckpointRef
  at_by present version =
      if present (Classic version) then Some (classic_ref version)
      else by_parts present version (greatest (filter_map (parts_at present version) (listed_places listing))) (least (filter_map (checkpoint_id_at version) (listed_places listing)))

  taken_is : (version : ℕ) → taken_at listing version ≡ checkpoint_at (listed_places listing) version
  taken_is version =
      ap₂ (λ (parts id : Option ℕ). if here (Classic version) then Some (classic_ref version) else by_parts here version parts id) (most_listed version) (least_listed version)
      ∙ ap (λ (present : Place → Bool). at_by present version) (sym (among_is listing))

  pub base_is : (allowed : Checkpoints) (asked : ℕ) → base_listed listing allowed asked ≡ base_of (listed_places listing) allowed asked
  base_is allowed asked =
      let taken : taken_at listing ≡ checkpoint_at (listed_places listing) = λ i version. taken_is version i in
      ap₂ (λ (at : ℕ → Option CheckpointRef) (version : Option ℕ). option_and_then at version) taken
      (version_listed allowed asked ∙ ap (λ (present : Place → Bool). greatest (filter (is_allowed allowed asked) (filter_map (complete_at present) (listed_places listing)))) (sym (among_is listing)))

  -- ---- compacted files

  reached_name : (asked version : ℕ) (name : LogName) → option_and_then (reached_by asked version) (named_place name) ≡ reached_by_name asked version name
  reached_name asked version (names.Commit v) = refl
  reached_name asked version (names.Classic v) = refl
  reached_name asked version (names.Part v part parts) = refl
  reached_name asked version (names.V2Json v i) = refl
  reached_name asked version (names.V2Parquet v i) = refl
  reached_name asked version (names.Compacted x y) = refl
  reached_name asked version names.Hint = refl
  reached_name asked version names.Other = refl

  pub furthest_is : (allowed : Bool) (asked version : ℕ) → (if allowed then reached_in listing.log.items asked version else None) ≡ furthest (listed_places listing) allowed asked version
  furthest_is allowed asked version = ap (λ (o : Option ℕ). if allowed then o else None)
      (newest_is_greatest (λ (n : Named). reached_by_name asked version n.name) listing.log.items
      ∙ ap greatest (sym (of_places (reached_by asked version) (reached_by_name asked version) (reached_name asked version) (λ v i. refl) listing.log.items listing.staged.items)))
