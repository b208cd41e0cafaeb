-- What is written of a checkpoint leads to the state that it is written of.
use Rattle.std.proofs.Common.{◌≡◌, ℕ, ℤ, ◌<ℤ◌, ◌⊎◌, inl, inr, Bool, true, false, List, [], ◌∷◌, ◌++◌, map, filter, Option, Some, None, option_map, if◌then◌else◌, refl, sym, ap, ap₂, subst, ◌∙◌}
use Rattle.std.specs.Prelude.{is_some, int_lt, IfSome, T}
use Rattle.std.specs.List.{AllByRecursion}
use Rattle.std.specs.Option.{option_or, option_to_list}
use Rattle.std.specs.Ordering.{nat_cmp}
use Rattle.std.specs.Cmp.Lexicographic.{slice_cmp}
use Rattle.std.specs.FinMap.{get, find, entries, get-entries, get-empty, same_map}
use Rattle.std.proofs.lemmas.Cmp.{nat_list_cmp_total}
use Rattle.dk_model.specs.declared.action.AddFile.{AddFile}
use Rattle.dk_model.specs.declared.action.Protocol.{Protocol}
use Rattle.dk_model.specs.declared.action.Metadata.{Metadata}
use Rattle.dk_model.specs.declared.action.Action.{Action}
use Rattle.dk_model.specs.declared.action.Action.TheVariants as action
use Rattle.dk_model.specs.declared.action.SidecarRef.{SidecarRef}
use Rattle.dk_model.specs.declared.state.Application.{Application}
use Rattle.dk_model.specs.declared.state.TableState.{TableState}
use Rattle.dk_model.specs.Changes.{Change, live, gone, is_same_text, change_at, application_at, domain_at, protocol_in, metadata_in, last_some}
use Rattle.dk_model.specs.State.{steps, empty_state}
use Rattle.dk_model.specs.WellKept.{IsWellKept}
use Rattle.dk_model.proofs.Changes.{file_given, tombstone_given, domain_given, get-files-steps, get-tombstones-steps, get-applications-steps, get-domains-steps, protocol-steps, metadata-steps}
use Rattle.dk_model.proofs.TextMaps.{text_order}
use Rattle.dk_lawful.specs.Shares.{has_file, SetsFiles, SetsAllElse}
use Rattle.dk_model.specs.Contents.{heads, live_file, is_later, removal, recorded, configured, adds, removals, named_actions, canonical_with}
use Rattle.dk_lawful.specs.Contents.{mark}
use Rattle.dk_lawful.proofs.Words.{AreOf, entries_are_of, filter_is_of, found_filtered, none_after, last_of_both, last_of_none, last_of_entries}

-- ---- the last words of each group of actions

module _ (state : TableState) (kept : IsWellKept state) where
  -- a file of the state is an action that makes it live as it is
  makes_live : (e : List ℕ × AddFile) → get state.files e.0 ≡ Some e.1 → (path : List ℕ) → change_at path (live_file e) ≡ (if is_same_text path e.0 then Some (live e.1) else None)
  makes_live e is path =
      let own : e.1.path ≡ e.0 = subst (λ o. IfSome o (λ f. f.path ≡ e.0)) is (kept.own_path e.0) in
      let unchanged : e.1.data_change ≡ false = subst (λ o. IfSome o (λ f. f.data_change ≡ false)) is (kept.unchanged e.0) in
      let same : record e.1 { data_change = false } ≡ e.1 = (λ i. record e.1 { data_change = (sym unchanged) i }) in
      ap₂ (λ (p : List ℕ) (f : AddFile). if is_same_text path p then Some (live f) else None) own same

  all_make_live : (files : List (List ℕ × AddFile)) → AreOf state.files files → (path : List ℕ)
      → AllByRecursion (λ e. change_at path (live_file e) ≡ (if is_same_text path e.0 then Some (live e.1) else None)) files
  all_make_live [] all path = tt
  all_make_live (e ∷ files) all path = (makes_live e all.0 path, all_make_live files all.1 path)

  adds_words : (files : List (List ℕ × AddFile)) → AreOf state.files files → (path : List ℕ)
      → last_some (change_at path) (adds files) ≡ (if has_file files path then option_map live (get state.files path) else None)
  adds_words files all path = last_of_entries (change_at path) path live_file live state.files files all (all_make_live files all path)

removes : (tombstones : List (List ℕ × ℤ)) (path : List ℕ) → AllByRecursion (λ e. change_at path (removal e) ≡ (if is_same_text path e.0 then Some (gone e.1) else None)) tombstones
removes [] path = tt
removes (e ∷ tombstones) path = (refl, removes tombstones path)

abbrev later : TableState → ℤ → List (List ℕ × ℤ)
later state cut = filter (is_later cut) (entries state.tombstones)

abbrev has_later : TableState → ℤ → List ℕ → Bool
has_later state cut path = is_some (find (slice_cmp nat_cmp) path (later state cut))

removals_words : (state : TableState) (cut : ℤ) (path : List ℕ)
    → last_some (change_at path) (removals state (is_later cut)) ≡ (if has_later state cut path then option_map gone (get state.tombstones path) else None)
removals_words state cut path =
    last_of_entries (change_at path) path removal gone state.tombstones (later state cut)
    (filter_is_of state.tombstones (is_later cut) (entries state.tombstones) (entries_are_of state.tombstones)) (removes (later state cut) path)

records : (applications : List (List ℕ × Application)) (path : List ℕ)
    → AllByRecursion (λ e. application_at path (recorded e) ≡ (if is_same_text path e.0 then Some e.1 else None)) applications
records [] path = tt
records (e ∷ applications) path = (refl, records applications path)

configures : (domains : List (List ℕ × List ℕ)) (path : List ℕ)
    → AllByRecursion (λ e. domain_at path (configured e) ≡ (if is_same_text path e.0 then Some (Some e.1) else None)) domains
configures [] path = tt
configures (e ∷ domains) path = (refl, configures domains path)

if_there : {A : Type 0} (found : Option A) → (if is_some found then option_map (λ x. x) found else None) ≡ found
if_there None = refl
if_there (Some x) = refl

applications_words : (state : TableState) (path : List ℕ) → last_some (application_at path) (map recorded (entries state.applications)) ≡ get state.applications path
applications_words state path =
    last_of_entries (application_at path) path recorded (λ x. x) state.applications (entries state.applications) (entries_are_of state.applications) (records (entries state.applications) path)
    ∙ ap (λ found. if is_some found then option_map (λ (x : Application). x) (get state.applications path) else None) (sym (get-entries state.applications path))
    ∙ if_there (get state.applications path)

domain_there : (found : Option (List ℕ)) → (if is_some found then option_map (λ (x : List ℕ). Some x) found else None) ≡ option_map (λ (x : List ℕ). Some x) found
domain_there None = refl
domain_there (Some x) = refl

domains_words : (state : TableState) (path : List ℕ) → last_some (domain_at path) (map configured (entries state.domains)) ≡ option_map (λ (x : List ℕ). Some x) (get state.domains path)
domains_words state path =
    last_of_entries (domain_at path) path configured (λ (x : List ℕ). Some x) state.domains (entries state.domains) (entries_are_of state.domains) (configures (entries state.domains) path)
    ∙ ap (λ found. if is_some found then option_map (λ (x : List ℕ). Some x) (get state.domains path) else None) (sym (get-entries state.domains path))
    ∙ domain_there (get state.domains path)

-- the heads say the protocol and the metadata, and nothing else
heads_protocol : (p : Option Protocol) (m : Option Metadata) → last_some protocol_in (map (λ x. action.Protocol x) (option_to_list p) ++ map (λ x. action.Metadata x) (option_to_list m)) ≡ p
heads_protocol None None = refl
heads_protocol None (Some m) = refl
heads_protocol (Some p) None = refl
heads_protocol (Some p) (Some m) = refl

heads_metadata : (p : Option Protocol) (m : Option Metadata) → last_some metadata_in (map (λ x. action.Protocol x) (option_to_list p) ++ map (λ x. action.Metadata x) (option_to_list m)) ≡ m
heads_metadata None None = refl
heads_metadata None (Some m) = refl
heads_metadata (Some p) None = refl
heads_metadata (Some p) (Some m) = refl

heads_silent : {W : Type 0} (word : Action → Option W) → ((p : Protocol) → word (action.Protocol p) ≡ None) → ((m : Metadata) → word (action.Metadata m) ≡ None)
    → (state : TableState) → last_some word (heads state) ≡ None
heads_silent word no_protocol no_metadata state =
    last_of_both word (map (λ p. action.Protocol p) (option_to_list state.protocol)) (map (λ m. action.Metadata m) (option_to_list state.metadata))
    ∙ ap₂ option_or (last_of_none word (λ m. action.Metadata m) (option_to_list state.metadata) no_metadata) (last_of_none word (λ p. action.Protocol p) (option_to_list state.protocol) no_protocol)

-- ---- what a list does by its last words

-- the words of the files alone
pub record SaysFiles (actions : List Action) (whole : TableState) (files : List (List ℕ × AddFile)) : Type 0 where
  pub paths : (path : List ℕ) → last_some (change_at path) actions ≡ (if has_file files path then option_map live (get whole.files path) else None)
  pub protocol : last_some protocol_in actions ≡ None
  pub metadata : last_some metadata_in actions ≡ None
  pub applications : (path : List ℕ) → last_some (application_at path) actions ≡ None
  pub domains : (path : List ℕ) → last_some (domain_at path) actions ≡ None

-- the words of all else too
pub record SaysAllElse (actions : List Action) (whole : TableState) (files : List (List ℕ × AddFile)) (cut : ℤ) : Type 0 where
  pub paths : (path : List ℕ) → last_some (change_at path) actions
      ≡ option_or (if has_later whole cut path then option_map gone (get whole.tombstones path) else None) (if has_file files path then option_map live (get whole.files path) else None)
  pub protocol : last_some protocol_in actions ≡ whole.protocol
  pub metadata : last_some metadata_in actions ≡ whole.metadata
  pub applications : (path : List ℕ) → last_some (application_at path) actions ≡ get whole.applications path
  pub domains : (path : List ℕ) → last_some (domain_at path) actions ≡ option_map (λ (x : List ℕ). Some x) (get whole.domains path)

-- what is no file of the state is none of these files
abbrev AreAmong : List (List ℕ × AddFile) → TableState → Type 0
AreAmong files whole = (path : List ℕ) → get whole.files path ≡ None → has_file files path ≡ false

file_there : (has : Bool) (got old : Option AddFile) → (got ≡ None → has ≡ false) → file_given (if has then option_map live got else None) old ≡ (if has then got else old)
file_there true None old among = absurd (let no : true ≡ false = among refl in cc)
file_there true (Some f) old among = refl
file_there false got old among = refl

tombstone_there : (has : Bool) (got : Option AddFile) (old : Option ℤ) → (got ≡ None → has ≡ false)
    → tombstone_given (if has then option_map live got else None) old ≡ (if has then None else old)
tombstone_there true None old among = absurd (let no : true ≡ false = among refl in cc)
tombstone_there true (Some f) old among = refl
tombstone_there false got old among = refl

pub sets_files : (actions : List Action) (whole : TableState) (files : List (List ℕ × AddFile)) → AreAmong files whole → SaysFiles actions whole files → SetsFiles actions whole files
sets_files actions whole files among words = record {
  sets = λ state path. get-files-steps actions state path ∙ ap (λ c. file_given c (get state.files path)) (words.paths path)
      ∙ file_there (has_file files path) (get whole.files path) (get state.files path) (among path);
  takes = λ state path. get-tombstones-steps actions state path ∙ ap (λ c. tombstone_given c (get state.tombstones path)) (words.paths path)
      ∙ tombstone_there (has_file files path) (get whole.files path) (get state.tombstones path) (among path);
  protocol = λ state. protocol-steps actions state ∙ ap (λ o. option_or o state.protocol) words.protocol;
  metadata = λ state. metadata-steps actions state ∙ ap (λ o. option_or o state.metadata) words.metadata;
  applications = λ state. same_map nat_list_cmp_total text_order (steps state actions).applications state.applications
      (λ path. get-applications-steps actions state path ∙ ap (λ o. option_or o (get state.applications path)) (words.applications path));
  domains = λ state. same_map nat_list_cmp_total text_order (steps state actions).domains state.domains
      (λ path. get-domains-steps actions state path ∙ ap (λ o. domain_given o (get state.domains path)) (words.domains path));
}

-- a path has a file or a tombstone
abbrev Apart : Option AddFile → Option ℤ → Type 0
Apart file tombstone = (file ≡ None) ⊎ (tombstone ≡ None)

file_else : (has has_gone : Bool) (got : Option AddFile) (tombstone : Option ℤ) → Apart got tombstone
    → file_given (option_or (if has_gone then option_map gone tombstone else None) (if has then option_map live got else None)) None ≡ (if has then got else None)
file_else true true None (Some t) apart = refl
file_else true true (Some f) (Some t) apart = elim apart [
  | inl no_file ↦ absurd (let wrong : ◌≡◌ {A = Option AddFile} (Some f) None = no_file in cc)
  | inr no_tombstone ↦ absurd (let wrong : ◌≡◌ {A = Option ℤ} (Some t) None = no_tombstone in cc)
]
file_else true true None None apart = refl
file_else true true (Some f) None apart = refl
file_else true false None tombstone apart = refl
file_else true false (Some f) tombstone apart = refl
file_else false true got None apart = refl
file_else false true got (Some t) apart = refl
file_else false false got tombstone apart = refl

tombstone_only : (has has_gone : Bool) (got : Option AddFile) (tombstone : Option ℤ) (time : ℤ)
    → tombstone_given (option_or (if has_gone then option_map gone tombstone else None) (if has then option_map live got else None)) None ≡ Some time → tombstone ≡ Some time
tombstone_only has true got (Some t) time is = is
tombstone_only true true (Some f) None time is = absurd (let no : ◌≡◌ {A = Option ℤ} None (Some time) = is in cc)
tombstone_only true true None None time is = is
tombstone_only false true got None time is = is
tombstone_only true false (Some f) tombstone time is = absurd (let no : ◌≡◌ {A = Option ℤ} None (Some time) = is in cc)
tombstone_only true false None tombstone time is = absurd (let no : ◌≡◌ {A = Option ℤ} None (Some time) = is in cc)
tombstone_only false false got tombstone time is = absurd (let no : ◌≡◌ {A = Option ℤ} None (Some time) = is in cc)

holds_true : (test : Bool) → T test → test ≡ true
holds_true true holds = refl
holds_true false holds = absurd holds

above_is : (cut time : ℤ) → cut <ℤ time → int_lt cut time ≡ true
above_is cut time above = holds_true (int_lt cut time) above.lt

later_there : (whole : TableState) (cut : ℤ) (path : List ℕ) (time : ℤ) → get whole.tombstones path ≡ Some time → cut <ℤ time → has_later whole cut path ≡ true
later_there whole cut path time is above =
    found_filtered (λ t. int_lt cut t) (entries whole.tombstones) path time (sym (get-entries whole.tombstones path) ∙ is) (above_is cut time above)

pub sets_all_else : (actions : List Action) (whole : TableState) (files : List (List ℕ × AddFile)) (cut : ℤ) → IsWellKept whole
    → SaysAllElse actions whole files cut → SetsAllElse actions whole files cut
sets_all_else actions whole files cut kept words = record {
  sets = λ path. get-files-steps actions empty_state path ∙ ap₂ file_given (words.paths path) (get-empty (slice_cmp nat_cmp) path)
      ∙ file_else (has_file files path) (has_later whole cut path) (get whole.files path) (get whole.tombstones path) (kept.apart path);
  protocol = protocol-steps actions empty_state ∙ none_after (last_some protocol_in actions) ∙ words.protocol;
  metadata = metadata-steps actions empty_state ∙ none_after (last_some metadata_in actions) ∙ words.metadata;
  applications = same_map nat_list_cmp_total text_order (steps empty_state actions).applications whole.applications (λ path.
      get-applications-steps actions empty_state path ∙ ap₂ option_or (words.applications path) (get-empty (slice_cmp nat_cmp) path) ∙ none_after (get whole.applications path));
  domains = same_map nat_list_cmp_total text_order (steps empty_state actions).domains whole.domains (λ path.
      get-domains-steps actions empty_state path ∙ ap₂ domain_given (words.domains path) (get-empty (slice_cmp nat_cmp) path) ∙ given_back (get whole.domains path));
  none_more = λ path time is.
      tombstone_only (has_file files path) (has_later whole cut path) (get whole.files path) (get whole.tombstones path) time
      (sym (get-tombstones-steps actions empty_state path ∙ ap₂ tombstone_given (words.paths path) (get-empty (slice_cmp nat_cmp) path)) ∙ is);
  unexpired = λ path time is above.
      get-tombstones-steps actions empty_state path ∙ ap₂ tombstone_given (words.paths path) (get-empty (slice_cmp nat_cmp) path)
      ∙ ap₂ (λ (b : Bool) (t : Option ℤ). tombstone_given (option_or (if b then option_map gone t else None) (if has_file files path then option_map live (get whole.files path) else None)) None)
      (later_there whole cut path time is above) is;
}
  where
    given_back : (found : Option (List ℕ)) → domain_given (option_map (λ (x : List ℕ). Some x) found) None ≡ found
    given_back None = refl
    given_back (Some x) = refl

-- ---- the words of what is written

two : {W : Type 0} (word : Action → Option W) (xs ys : List Action) (x y : Option W) → last_some word xs ≡ x → last_some word ys ≡ y → last_some word (xs ++ ys) ≡ option_or y x
two word xs ys x y is_x is_y = last_of_both word xs ys ∙ ap₂ option_or is_y is_x

named_silent : {W : Type 0} (word : Action → Option W) → ((e : List ℕ × Application) → word (recorded e) ≡ None) → ((e : List ℕ × List ℕ) → word (configured e) ≡ None)
    → (state : TableState) → last_some word (named_actions state) ≡ None
named_silent word no_record no_domain state =
    two word (map recorded (entries state.applications)) (map configured (entries state.domains)) None None
    (last_of_none word recorded (entries state.applications) no_record) (last_of_none word configured (entries state.domains) no_domain)

-- of the files of a state
abbrev AreFilesOf : TableState → List (List ℕ × AddFile) → Type 0
AreFilesOf state files = AreOf state.files files

module _ (state : TableState) (cut : ℤ) (files : List (List ℕ × AddFile)) (kept : IsWellKept state) (all : AreFilesOf state files) where
  pub says_files : SaysFiles (adds files) state files
  says_files = record {
    paths = adds_words state kept files all;
    protocol = last_of_none protocol_in live_file files (λ e. refl);
    metadata = last_of_none metadata_in live_file files (λ e. refl);
    applications = λ path. last_of_none (application_at path) live_file files (λ e. refl);
    domains = λ path. last_of_none (domain_at path) live_file files (λ e. refl);
  }

  abbrev live_word : List ℕ → Option Change
  live_word path = if has_file files path then option_map live (get state.files path) else None

  abbrev gone_word : List ℕ → Option Change
  gone_word path = if has_later state cut path then option_map gone (get state.tombstones path) else None

  abbrev domain_word : List ℕ → Option (Option (List ℕ))
  domain_word path = option_map (λ (x : List ℕ). Some x) (get state.domains path)

  heads_none_at : (path : List ℕ) → last_some (change_at path) (heads state) ≡ None
  heads_none_at path = heads_silent (change_at path) (λ p. refl) (λ m. refl) state

  named_none_at : (path : List ℕ) → last_some (change_at path) (named_actions state) ≡ None
  named_none_at path = named_silent (change_at path) (λ e. refl) (λ e. refl) state

  named_applications : (path : List ℕ) → last_some (application_at path) (named_actions state) ≡ get state.applications path
  named_applications path =
      two (application_at path) (map recorded (entries state.applications)) (map configured (entries state.domains)) (get state.applications path) None
      (applications_words state path) (last_of_none (application_at path) configured (entries state.domains) (λ e. refl))

  named_domains : (path : List ℕ) → last_some (domain_at path) (named_actions state) ≡ domain_word path
  named_domains path =
      two (domain_at path) (map recorded (entries state.applications)) (map configured (entries state.domains)) None (domain_word path)
      (last_of_none (domain_at path) recorded (entries state.applications) (λ e. refl)) (domains_words state path)
      ∙ none_after (domain_word path)

  no_removal : {W : Type 0} (word : Action → Option W) → ((e : List ℕ × ℤ) → word (removal e) ≡ None) → last_some word (removals state (is_later cut)) ≡ None
  no_removal word none = last_of_none word removal (later state cut) none

  pub says_all_with : SaysAllElse (canonical_with state (is_later cut) files) state files cut
  says_all_with = record {
    paths = λ path.
        two (change_at path) (heads state) (adds files ++ (removals state (is_later cut) ++ named_actions state)) None (option_or (gone_word path) (live_word path)) (heads_none_at path)
        (two (change_at path) (adds files) (removals state (is_later cut) ++ named_actions state) (live_word path) (gone_word path) (adds_words state kept files all path)
        (two (change_at path) (removals state (is_later cut)) (named_actions state) (gone_word path) None (removals_words state cut path) (named_none_at path)))
        ∙ none_after (option_or (gone_word path) (live_word path));
    protocol =
        two protocol_in (heads state) (adds files ++ (removals state (is_later cut) ++ named_actions state)) state.protocol None (heads_protocol state.protocol state.metadata)
        (two protocol_in (adds files) (removals state (is_later cut) ++ named_actions state) None None says_files.protocol
        (two protocol_in (removals state (is_later cut)) (named_actions state) None None (no_removal protocol_in (λ e. refl)) (named_silent protocol_in (λ e. refl) (λ e. refl) state)));
    metadata =
        two metadata_in (heads state) (adds files ++ (removals state (is_later cut) ++ named_actions state)) state.metadata None (heads_metadata state.protocol state.metadata)
        (two metadata_in (adds files) (removals state (is_later cut) ++ named_actions state) None None says_files.metadata
        (two metadata_in (removals state (is_later cut)) (named_actions state) None None (no_removal metadata_in (λ e. refl)) (named_silent metadata_in (λ e. refl) (λ e. refl) state)));
    applications = λ path.
        two (application_at path) (heads state) (adds files ++ (removals state (is_later cut) ++ named_actions state)) None (get state.applications path)
        (heads_silent (application_at path) (λ p. refl) (λ m. refl) state)
        (two (application_at path) (adds files) (removals state (is_later cut) ++ named_actions state) None (get state.applications path) (says_files.applications path)
        (two (application_at path) (removals state (is_later cut)) (named_actions state) None (get state.applications path) (no_removal (application_at path) (λ e. refl)) (named_applications path)
        ∙ none_after (get state.applications path))
        ∙ none_after (get state.applications path))
        ∙ none_after (get state.applications path);
    domains = λ path.
        two (domain_at path) (heads state) (adds files ++ (removals state (is_later cut) ++ named_actions state)) None (domain_word path)
        (heads_silent (domain_at path) (λ p. refl) (λ m. refl) state)
        (two (domain_at path) (adds files) (removals state (is_later cut) ++ named_actions state) None (domain_word path) (says_files.domains path)
        (two (domain_at path) (removals state (is_later cut)) (named_actions state) None (domain_word path) (no_removal (domain_at path) (λ e. refl)) (named_domains path)
        ∙ none_after (domain_word path))
        ∙ none_after (domain_word path))
        ∙ none_after (domain_word path);
  }

  -- the top of a checkpoint with sidecars, and the first of these
  module _ (version : ℕ) (references : List SidecarRef) where
    abbrev refs : List Action
    refs = map (λ r. action.Sidecar r) references

    no_reference : {W : Type 0} (word : Action → Option W) → ((r : SidecarRef) → word (action.Sidecar r) ≡ None) → last_some word refs ≡ None
    no_reference word none = last_of_none word (λ r. action.Sidecar r) references none

    abbrev top_actions : List Action
    top_actions = mark version ∷ (heads state ++ (named_actions state ++ refs))

    marked : {W : Type 0} (word : Action → Option W) (h : Option W) → word (mark version) ≡ None → last_some word (heads state) ≡ h → last_some word (mark version ∷ heads state) ≡ h
    marked word h none is = ap₂ option_or is none ∙ none_after h

    pub says_first : SaysAllElse (top_actions ++ (adds files ++ removals state (is_later cut))) state files cut
    says_first = record {
      paths = λ path.
          two (change_at path) top_actions (adds files ++ removals state (is_later cut)) None (option_or (gone_word path) (live_word path))
          (two (change_at path) (mark version ∷ heads state) (named_actions state ++ refs) None None (marked (change_at path) None refl (heads_none_at path))
          (two (change_at path) (named_actions state) refs None None (named_none_at path) (no_reference (change_at path) (λ r. refl))))
          (two (change_at path) (adds files) (removals state (is_later cut)) (live_word path) (gone_word path) (adds_words state kept files all path) (removals_words state cut path))
          ∙ none_after (option_or (gone_word path) (live_word path));
      protocol =
          two protocol_in top_actions (adds files ++ removals state (is_later cut)) state.protocol None
          (two protocol_in (mark version ∷ heads state) (named_actions state ++ refs) state.protocol None
          (marked protocol_in state.protocol refl (heads_protocol state.protocol state.metadata))
          (two protocol_in (named_actions state) refs None None (named_silent protocol_in (λ e. refl) (λ e. refl) state) (no_reference protocol_in (λ r. refl))))
          (two protocol_in (adds files) (removals state (is_later cut)) None None says_files.protocol (no_removal protocol_in (λ e. refl)));
      metadata =
          two metadata_in top_actions (adds files ++ removals state (is_later cut)) state.metadata None
          (two metadata_in (mark version ∷ heads state) (named_actions state ++ refs) state.metadata None
          (marked metadata_in state.metadata refl (heads_metadata state.protocol state.metadata))
          (two metadata_in (named_actions state) refs None None (named_silent metadata_in (λ e. refl) (λ e. refl) state) (no_reference metadata_in (λ r. refl))))
          (two metadata_in (adds files) (removals state (is_later cut)) None None says_files.metadata (no_removal metadata_in (λ e. refl)));
      applications = λ path.
          two (application_at path) top_actions (adds files ++ removals state (is_later cut)) (get state.applications path) None
          (two (application_at path) (mark version ∷ heads state) (named_actions state ++ refs) None (get state.applications path)
          (marked (application_at path) None refl (heads_silent (application_at path) (λ p. refl) (λ m. refl) state))
          (two (application_at path) (named_actions state) refs (get state.applications path) None (named_applications path) (no_reference (application_at path) (λ r. refl)))
          ∙ none_after (get state.applications path))
          (two (application_at path) (adds files) (removals state (is_later cut)) None None (says_files.applications path) (no_removal (application_at path) (λ e. refl)));
      domains = λ path.
          two (domain_at path) top_actions (adds files ++ removals state (is_later cut)) (domain_word path) None
          (two (domain_at path) (mark version ∷ heads state) (named_actions state ++ refs) None (domain_word path)
          (marked (domain_at path) None refl (heads_silent (domain_at path) (λ p. refl) (λ m. refl) state))
          (two (domain_at path) (named_actions state) refs (domain_word path) None (named_domains path) (no_reference (domain_at path) (λ r. refl)))
          ∙ none_after (domain_word path))
          (two (domain_at path) (adds files) (removals state (is_later cut)) None None (says_files.domains path) (no_removal (domain_at path) (λ e. refl)));
    }
