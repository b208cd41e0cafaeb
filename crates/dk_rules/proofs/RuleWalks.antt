-- The rules by their tests.
use Rattle.std.proofs.Common.{◌≡◌, ℕ, zero, suc, ◌+◌, ◌<◌, ◌≤◌, List, [], ◌∷◌, Bool, true, false, Some, None, refl, ap, sym, subst, ◌∙◌, true≢false, drop, length, get_or, nat_cmp, arith}
use Rattle.std.specs.Prelude.{◌==◌, ◌&&◌, nat_le, Option}
use Rattle.std.specs.Borrow.{Bor}
use Rattle.std.specs.declared.cmp.Ordering.{Ordering}
use Rattle.std.specs.Cmp.Lexicographic.{slice_cmp}
use Rattle.std.specs.BTreeSet.{Updates}
use Rattle.std.specs.List.{list_all, filter_map}
use Rattle.std.proofs.lemmas.Bool.{eqb-true, leb-true}
use Rattle.std.proofs.Math.ListN.{drop_of_length-le}
use Rattle.std.proofs.lemmas.List.{drop_more}
use Rattle.dk_model.specs.declared.action.Action.{Action}
use Rattle.dk_model.specs.declared.action.Action.TheVariants as action
use Rattle.dk_model.specs.declared.action.Protocol.{Protocol}
use Rattle.dk_model.specs.declared.action.Metadata.{Metadata}
use Rattle.dk_model.specs.declared.state.TableState.{TableState}
use Rattle.dk_model.specs.State.{steps}
use Rattle.dk_model.specs.ReadBack.{own_info}
use Rattle.dk_model.specs.NameSets.{NameSet, has_name}
use Rattle.dk_features.proofs.Gathered.{each_new, new_more}
use Rattle.dk_lawful.specs.Rules.{is_count_allowed, info_in, may_be_committed, keeps_heads, keeps_kinds, keeps_paths_apart, keeps_names_apart, keeps_protocol, begins_unenabled, keeps_rows, keeps_domains, keeps_adds}
use Rattle.dk_lawful.specs.SoFar.{first_broken_so_far, is_written_so_far}
use Rattle.dk_lawful.specs.Timestamps.{is_enabled_from_start}
use Rattle.dk_rules.specs.Walks.{last_protocol, last_metadata, stands_behind_own}

pub first_count : (version count : ℕ) → (version == 0) ≡ true → (count == 1) ≡ is_count_allowed version count
first_count version count first = subst (λ v. (count == 1) ≡ is_count_allowed v count) (sym (eqb-true version 0 first)) refl

pub later_count : (version count : ℕ) → (version == 0) ≡ false → nat_le count 1 ≡ is_count_allowed version count
later_count zero count later = absurd (true≢false later)
later_count (suc version) count later = refl

pub begins_first : (version : ℕ) (after : Option Metadata) → (version == 0) ≡ true → is_enabled_from_start after ≡ begins_unenabled version after
begins_first version after first = subst (λ (v : ℕ). is_enabled_from_start after ≡ begins_unenabled v after) (sym (eqb-true version 0 first)) refl

pub begins_later : (version : ℕ) (after : Option Metadata) → (version == 0) ≡ false → true ≡ begins_unenabled version after
begins_later zero after later = absurd (true≢false later)
begins_later (suc version) after later = refl

-- ---- what stands last

last_protocol-steps : (actions : List Action) (before : TableState) → (steps before actions).protocol ≡ last_protocol before.protocol actions
last_protocol-steps [] before = refl
last_protocol-steps (action.Protocol p ∷ actions) before = last_protocol-steps actions _
last_protocol-steps (action.Metadata m ∷ actions) before = last_protocol-steps actions _
last_protocol-steps (action.Add f ∷ actions) before = last_protocol-steps actions _
last_protocol-steps (action.Remove r ∷ actions) before = last_protocol-steps actions _
last_protocol-steps (action.Txn t ∷ actions) before = last_protocol-steps actions _
last_protocol-steps (action.Domain d ∷ actions) before = last_protocol-steps actions _
last_protocol-steps (action.Info i ∷ actions) before = last_protocol-steps actions _
last_protocol-steps (action.Cdc ∷ actions) before = last_protocol-steps actions _
last_protocol-steps (action.CheckpointMeta m ∷ actions) before = last_protocol-steps actions _
last_protocol-steps (action.Sidecar r ∷ actions) before = last_protocol-steps actions _

pub protocol_is : (before : TableState) (actions : List Action) (place : ℕ) (after : Option Protocol) → length actions ≤ place
    → last_protocol after (drop place actions) ≡ last_protocol before.protocol actions → after ≡ (steps before actions).protocol
protocol_is before actions place after past is = sym (ap (last_protocol after) (drop_of_length-le actions past)) ∙ is ∙ sym (last_protocol-steps actions before)

last_metadata-steps : (actions : List Action) (before : TableState) → (steps before actions).metadata ≡ last_metadata before.metadata actions
last_metadata-steps [] before = refl
last_metadata-steps (action.Protocol p ∷ actions) before = last_metadata-steps actions _
last_metadata-steps (action.Metadata m ∷ actions) before = last_metadata-steps actions _
last_metadata-steps (action.Add f ∷ actions) before = last_metadata-steps actions _
last_metadata-steps (action.Remove r ∷ actions) before = last_metadata-steps actions _
last_metadata-steps (action.Txn t ∷ actions) before = last_metadata-steps actions _
last_metadata-steps (action.Domain d ∷ actions) before = last_metadata-steps actions _
last_metadata-steps (action.Info i ∷ actions) before = last_metadata-steps actions _
last_metadata-steps (action.Cdc ∷ actions) before = last_metadata-steps actions _
last_metadata-steps (action.CheckpointMeta m ∷ actions) before = last_metadata-steps actions _
last_metadata-steps (action.Sidecar r ∷ actions) before = last_metadata-steps actions _

pub metadata_is : (before : TableState) (actions : List Action) (place : ℕ) (after : Option Metadata) → length actions ≤ place
    → last_metadata after (drop place actions) ≡ last_metadata before.metadata actions → after ≡ (steps before actions).metadata
metadata_is before actions place after past is = sym (ap (last_metadata after) (drop_of_length-le actions past)) ∙ is ∙ sym (last_metadata-steps actions before)

-- ---- the kinds of actions

never : (b : Bool) → (b && false) ≡ false
never true = refl
never false = refl

none_less : (n : ℕ) (b : Bool) → (nat_le (suc (suc n)) 1 && b) ≡ false
none_less n b = by (nat_le (suc (suc n)) 1) refl
  where
    by : (test : Bool) → nat_le (suc (suc n)) 1 ≡ test → (test && b) ≡ false
    by true is = let most : suc (suc n) ≤ 1 = leb-true (suc (suc n)) 1 is in absurd (omega arith)
    by false is = refl

-- behind the commit's own line there is no other, and none of the kinds that are never committed
kinds_split : (actions : List Action) → (nat_le (suc (length (filter_map info_in actions))) 1 && list_all may_be_committed actions) ≡ list_all stands_behind_own actions
kinds_split [] = refl
kinds_split (action.Protocol p ∷ actions) = kinds_split actions
kinds_split (action.Metadata m ∷ actions) = kinds_split actions
kinds_split (action.Add f ∷ actions) = kinds_split actions
kinds_split (action.Remove r ∷ actions) = kinds_split actions
kinds_split (action.Txn t ∷ actions) = kinds_split actions
kinds_split (action.Domain d ∷ actions) = kinds_split actions
kinds_split (action.Info i ∷ actions) = none_less (length (filter_map info_in actions)) (list_all may_be_committed actions)
kinds_split (action.Cdc ∷ actions) = never (nat_le (suc (length (filter_map info_in actions))) 1)
kinds_split (action.CheckpointMeta m ∷ actions) = never (nat_le (suc (length (filter_map info_in actions))) 1)
kinds_split (action.Sidecar r ∷ actions) = never (nat_le (suc (length (filter_map info_in actions))) 1)

pub kinds_of_own : (txn_id : List ℕ) (actions : List Action) → keeps_kinds (own_info txn_id ∷ actions) ≡ list_all stands_behind_own actions
kinds_of_own txn_id actions = kinds_split actions

-- ---- what was seen so far

at_item : (actions : List Action) (place : ℕ) (item : Action) → place < length actions → item ≡ get_or actions place item → drop place actions ≡ item ∷ drop (place + 1) actions
at_item actions place item less is = drop_more actions place item less ∙ ap (λ (a : Action). a ∷ drop (place + 1) actions) (sym is)

abbrev name_order : Bor (List ℕ) → Bor (List ℕ) → Ordering
name_order x y = slice_cmp nat_cmp x.now y.now

-- an action with a key that wasn't seen, and one without a key
pub key_more : (key_of : Action → Option (List ℕ)) (old new : NameSet) (key : Bor (List ℕ)) (actions : List Action) (place : ℕ) (item : Action) (all : Bool) → place < length actions
    → item ≡ get_or actions place item → key_of item ≡ Some key.now → has_name old key.now ≡ false → Updates name_order old new key true
    → each_new (has_name old) (filter_map key_of (drop place actions)) ≡ all → each_new (has_name new) (filter_map key_of (drop (place + 1) actions)) ≡ all
key_more key_of old new key actions place item all less is has unseen updates before =
    let split : filter_map key_of (drop place actions) ≡ key.now ∷ filter_map key_of (drop (place + 1) actions) = rw (at_item actions place item less is, has) refl in
    sym (new_more old new key (filter_map key_of (drop (place + 1) actions)) unseen updates) ∙ sym (ap (each_new (has_name old)) split) ∙ before

pub key_none : (key_of : Action → Option (List ℕ)) (old : NameSet) (actions : List Action) (place : ℕ) (item : Action) (all : Bool) → place < length actions → item ≡ get_or actions place item
    → key_of item ≡ None
    → each_new (has_name old) (filter_map key_of (drop place actions)) ≡ all → each_new (has_name old) (filter_map key_of (drop (place + 1) actions)) ≡ all
key_none key_of old actions place item all less is has before =
    let split : filter_map key_of (drop place actions) ≡ filter_map key_of (drop (place + 1) actions) = rw (at_item actions place item less is, has) refl in
    sym (ap (each_new (has_name old)) split) ∙ before

-- ---- the first broken rule

module _ (txn_id : List ℕ) (before : TableState) (version : ℕ) (actions : List Action) where
  abbrev commit : List Action
  commit = own_info txn_id ∷ actions

  abbrev pub FirstIs : Option ℕ → Type 0
  FirstIs rule = rule ≡ first_broken_so_far before version commit

  pub breaks_1 : keeps_heads version actions ≡ false → FirstIs (Some 1)
  breaks_1 heads = rw heads refl

  pub breaks_2 : keeps_heads version actions ≡ true → keeps_kinds commit ≡ false → FirstIs (Some 2)
  breaks_2 heads kinds = rw (heads, kinds) refl

  pub breaks_3 : keeps_heads version actions ≡ true → keeps_kinds commit ≡ true → keeps_paths_apart actions ≡ false → FirstIs (Some 3)
  breaks_3 heads kinds paths = rw (heads, kinds, paths) refl

  pub breaks_4 : keeps_heads version actions ≡ true → keeps_kinds commit ≡ true → keeps_paths_apart actions ≡ true → keeps_names_apart actions ≡ false → FirstIs (Some 4)
  breaks_4 heads kinds paths names = rw (heads, kinds, paths, names) refl

  pub breaks_5 : keeps_heads version actions ≡ true → keeps_kinds commit ≡ true → keeps_paths_apart actions ≡ true → keeps_names_apart actions ≡ true → keeps_protocol before actions ≡ false → FirstIs (Some 5)
  breaks_5 heads kinds paths names protocol = rw (heads, kinds, paths, names, protocol) refl

  pub breaks_6 : keeps_heads version actions ≡ true → keeps_kinds commit ≡ true → keeps_paths_apart actions ≡ true → keeps_names_apart actions ≡ true → keeps_protocol before actions ≡ true → is_written_so_far (steps before actions).protocol (steps before actions).metadata ≡ false → FirstIs (Some 6)
  breaks_6 heads kinds paths names protocol writer = rw (heads, kinds, paths, names, protocol, writer) refl

  pub breaks_7 : keeps_heads version actions ≡ true → keeps_kinds commit ≡ true → keeps_paths_apart actions ≡ true → keeps_names_apart actions ≡ true → keeps_protocol before actions ≡ true → is_written_so_far (steps before actions).protocol (steps before actions).metadata ≡ true → keeps_rows before actions ≡ false → FirstIs (Some 7)
  breaks_7 heads kinds paths names protocol writer rows = rw (heads, kinds, paths, names, protocol, writer, rows) refl

  pub breaks_8 : keeps_heads version actions ≡ true → keeps_kinds commit ≡ true → keeps_paths_apart actions ≡ true → keeps_names_apart actions ≡ true → keeps_protocol before actions ≡ true → is_written_so_far (steps before actions).protocol (steps before actions).metadata ≡ true → keeps_rows before actions ≡ true → keeps_domains before actions ≡ false → FirstIs (Some 8)
  breaks_8 heads kinds paths names protocol writer rows domains = rw (heads, kinds, paths, names, protocol, writer, rows, domains) refl

  pub breaks_9 : keeps_heads version actions ≡ true → keeps_kinds commit ≡ true → keeps_paths_apart actions ≡ true → keeps_names_apart actions ≡ true → keeps_protocol before actions ≡ true → is_written_so_far (steps before actions).protocol (steps before actions).metadata ≡ true → keeps_rows before actions ≡ true → keeps_domains before actions ≡ true → begins_unenabled version (steps before actions).metadata ≡ false → FirstIs (Some 9)
  breaks_9 heads kinds paths names protocol writer rows domains times = rw (heads, kinds, paths, names, protocol, writer, rows, domains, times) refl

  pub breaks_11 : keeps_heads version actions ≡ true → keeps_kinds commit ≡ true → keeps_paths_apart actions ≡ true → keeps_names_apart actions ≡ true → keeps_protocol before actions ≡ true → is_written_so_far (steps before actions).protocol (steps before actions).metadata ≡ true → keeps_rows before actions ≡ true → keeps_domains before actions ≡ true → begins_unenabled version (steps before actions).metadata ≡ true → keeps_adds actions ≡ false → FirstIs (Some 11)
  breaks_11 heads kinds paths names protocol writer rows domains times adds = rw (heads, kinds, paths, names, protocol, writer, rows, domains, times, adds) refl

  pub breaks_none : keeps_heads version actions ≡ true → keeps_kinds commit ≡ true → keeps_paths_apart actions ≡ true → keeps_names_apart actions ≡ true → keeps_protocol before actions ≡ true → is_written_so_far (steps before actions).protocol (steps before actions).metadata ≡ true → keeps_rows before actions ≡ true → keeps_domains before actions ≡ true → begins_unenabled version (steps before actions).metadata ≡ true → keeps_adds actions ≡ true → FirstIs None
  breaks_none heads kinds paths names protocol writer rows domains times adds = rw (heads, kinds, paths, names, protocol, writer, rows, domains, times, adds) refl

-- what a test answered, by what it stands for
pub tells : (answer rule value : Bool) → answer ≡ rule → answer ≡ value → rule ≡ value
tells answer rule value is answered = sym is ∙ answered
