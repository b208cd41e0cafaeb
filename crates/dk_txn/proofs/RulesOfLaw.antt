-- What keeps the rules that are built so far keeps those of the log's law.
use Rattle.std.proofs.Common.{◌≡◌, ℕ, ℤ, List, Bool, true, false, not, ◌&&◌, refl, ap, ◌∙◌, if◌then◌else◌}
use Rattle.std.specs.Prelude.{Option, Some, None, Result, Ok, Err, option_map, codes}
use Rattle.std.specs.Option.{option_or}
use Rattle.dk_model.specs.declared.action.Action.{Action}
use Rattle.dk_model.specs.declared.action.AddFile.{AddFile}
use Rattle.dk_model.specs.declared.action.Protocol.{Protocol}
use Rattle.dk_model.specs.declared.action.Metadata.{Metadata}
use Rattle.dk_model.specs.declared.state.TableState.{TableState}
use Rattle.dk_model.specs.State.{steps}
use Rattle.dk_model.specs.Settings.{setting}
use Rattle.dk_model.specs.Texts.{ByText}
use Rattle.dk_engine.specs.declared.refusal.Refusal.{Refusal}
use Rattle.dk_engine.specs.declared.refusal.Refusal.TheVariants as refusals
use Rattle.dk_features.specs.InForce.{has_feature}
use Rattle.dk_features.specs.Support.{unwritten, unwritten_name}
use Rattle.dk_lawful.specs.Rules.{first_broken, keeps_heads, keeps_kinds, keeps_paths_apart, keeps_names_apart, keeps_protocol}
use Rattle.dk_lawful.specs.SoFar.{HasNeither, awaited, first_broken_so_far, is_written_so_far}
use Rattle.dk_lawful.specs.Timestamps.{has_timestamps, is_set}
use Rattle.dk_lawful.specs.Transacted.{says_times}
use Rattle.dk_lawful.proofs.SoFar.{rules_so_far, written_has_neither, begun_has_neither}
use Rattle.dk_snapshot.specs.Support.{unreadable}
use Rattle.dk_txn.specs.Attempt.{own_commit, unbuilt, unsupported, unsupported_of}
use Rattle.dk_txn.specs.Transactions.{if_headed}

neither_first : {X : Type 0} (first second : Option X) → option_or first second ≡ None → first ≡ None
neither_first None second none = refl
neither_first {X = X} (Some x) second none = absurd (let no : ◌≡◌ {A = Option X} (Some x) None = none in cc)

neither_second : {X : Type 0} (first second : Option X) → option_or first second ≡ None → second ≡ None
neither_second None second none = none
neither_second {X = X} (Some x) second none = absurd (let no : ◌≡◌ {A = Option X} (Some x) None = none in cc)

none_mapped : {X Y : Type 0} (f : X → Y) (found : Option X) → option_map f found ≡ None → found ≡ None
none_mapped f None none = refl
none_mapped {Y = Y} f (Some x) none = absurd (let no : ◌≡◌ {A = Option Y} (Some (f x)) None = none in cc)

none_named : (p : Protocol) (m : Metadata) → unwritten_name p m ≡ None → unwritten p m ≡ None
unfolding unwritten_name
none_named p m none = none_mapped _ (unwritten p m) none

-- no table has neither feature
pub none_has_neither : HasNeither None
unfolding has_feature
none_has_neither = record { untimed = refl; unmanaged = refl }

by_heads : (path : List ℕ) (protocol : Option Protocol) (metadata : Option Metadata) (files : ByText AddFile) → if_headed path protocol metadata ≡ Ok tt → unsupported_of protocol metadata files ≡ None → HasNeither protocol
by_heads path (Some p) (Some m) files heads none = written_has_neither p m (none_named p m (neither_second (unreadable p files) (unwritten_name p m) none))
by_heads path (Some p) None files heads none = absurd (let no : ◌≡◌ {A = Result (Unit {0}) Refusal} (Err (refusals.Damaged path 0)) (Ok tt) = heads in cc)
by_heads path None metadata files heads none = none_has_neither

-- a table that has begun and is supported has neither feature
pub supported_has_neither : (path : List ℕ) (before : TableState) → if_headed path before.protocol before.metadata ≡ Ok tt → unsupported before ≡ None → HasNeither before.protocol
supported_has_neither path before heads none = by_heads path before.protocol before.metadata before.files heads none

pub is_supported : (before : TableState) (actions : List Action) → unbuilt before actions ≡ None → unsupported before ≡ None
is_supported before actions none = neither_first (unsupported before) (awaited (steps before actions).protocol) none

-- so the rules are the law's
pub keeps_law : (before : TableState) (last : Option ℤ) (version : ℕ) (actions : List Action) (id : ℕ) → HasNeither before.protocol → unbuilt before actions ≡ None
    → first_broken_so_far before version (own_commit id actions) ≡ None → first_broken before last version (own_commit id actions) ≡ None
keeps_law before last version actions id neither none rules =
    rules_so_far before last version (own_commit id actions) neither (neither_second (unsupported before) (awaited (steps before actions).protocol) none) ∙ rules

-- what keeps the rules that are built leaves a table with neither feature
sixth_holds : (one two three four five six : Bool) (rest : Option ℕ)
    → (if not one then Some 1 else if not two then Some 2 else if not three then Some 3 else if not four then Some 4 else if not five then Some 5 else if not six then Some 6 else rest) ≡ None → six ≡ true
sixth_holds true true true true true true rest none = refl
sixth_holds true true true true true false rest none = absurd (let no : ◌≡◌ {A = Option ℕ} (Some 6) None = none in cc)
sixth_holds true true true true false six rest none = absurd (let no : ◌≡◌ {A = Option ℕ} (Some 5) None = none in cc)
sixth_holds true true true false five six rest none = absurd (let no : ◌≡◌ {A = Option ℕ} (Some 4) None = none in cc)
sixth_holds true true false four five six rest none = absurd (let no : ◌≡◌ {A = Option ℕ} (Some 3) None = none in cc)
sixth_holds true false three four five six rest none = absurd (let no : ◌≡◌ {A = Option ℕ} (Some 2) None = none in cc)
sixth_holds false two three four five six rest none = absurd (let no : ◌≡◌ {A = Option ℕ} (Some 1) None = none in cc)

pub kept_has_neither : (before : TableState) (version : ℕ) (actions : List Action) (id : ℕ) → first_broken_so_far before version (own_commit id actions) ≡ None → HasNeither (steps before actions).protocol
kept_has_neither before version actions id none =
    begun_has_neither (steps before actions).protocol (steps before actions).metadata
    (sixth_holds (keeps_heads version own) (keeps_kinds own) (keeps_paths_apart own) (keeps_names_apart own) (keeps_protocol before own)
    (is_written_so_far (steps before actions).protocol (steps before actions).metadata) _ none)
  where
    own : List Action
    own = own_commit id actions

untimed_says_none : (protocol : Option Protocol) (metadata : Option Metadata) → HasNeither protocol → has_timestamps protocol metadata ≡ false
unfolding has_timestamps
untimed_says_none protocol None neither = refl
untimed_says_none protocol (Some m) neither = ap (λ (b : Bool). b && is_set (setting (codes "delta.enableInCommitTimestamps") m)) neither.untimed

-- the commits of such a table don't say their times
pub says_no_times : (state : TableState) → HasNeither state.protocol → says_times state ≡ false
says_no_times state neither = untimed_says_none state.protocol state.metadata neither
