-- The parts of a checkpoint, whoever made each, lead to the whole state together.
use Rattle.std.proofs.Common.{◌≡◌, ℕ, zero, suc, ℤ, ◌*◌, ◌/◌, ◌≤◌, ◌<ℤ◌, Bool, true, false, cond, List, [], ◌∷◌, ◌++◌, length, take, drop, Option, Some, None, refl, sym, ap, subst, ◌∙◌, arith, if◌then◌else◌}
use Rattle.std.specs.Prelude.{is_some, ◌||◌}
use Rattle.std.specs.Ordering.{nat_cmp, eq_by_cmp}
use Rattle.std.specs.Cmp.Lexicographic.{slice_cmp}
use Rattle.std.specs.FinMap.{get, find, get-entries, get-empty, same_map}
use Rattle.std.proofs.lemmas.Cmp.{nat_list_cmp_total}
use Rattle.std.proofs.lemmas.Nat.{le-div}
use Rattle.std.proofs.lemmas.List.{take-append-drop, take_all}
use Rattle.std.proofs.Math.Nat.{div-mul-le_self, mul-div_cancel_left, zero-div}
use Rattle.dk_model.specs.declared.action.AddFile.{AddFile}
use Rattle.dk_model.specs.declared.action.Action.{Action}
use Rattle.dk_model.specs.declared.state.TableState.{TableState}
use Rattle.dk_model.specs.Changes.{Change, live, gone, change_at, last_some}
use Rattle.dk_model.specs.State.{steps, steps_of_all, fold, empty_state}
use Rattle.dk_model.proofs.Changes.{file_given, tombstone_given, get-files-steps, get-tombstones-steps}
use Rattle.dk_model.proofs.TextMaps.{text_order}
use Rattle.dk_lawful.specs.Agree.{Agree}
use Rattle.dk_lawful.specs.Shares.{files_up_to, share_of, files_of, has_file, SetsFiles, SetsAllElse}

-- ---- no path has both a file and a tombstone

abbrev pub IsApart : TableState → Type 0
IsApart state = (path : List ℕ) (time : ℤ) → get state.tombstones path ≡ Some time → get state.files path ≡ None

apart_given : (change : Option Change) (file : Option AddFile) (tombstone : Option ℤ) → ((time : ℤ) → tombstone ≡ Some time → file ≡ None)
    → (time : ℤ) → tombstone_given change tombstone ≡ Some time → file_given change file ≡ None
apart_given None file tombstone apart time is = apart time is
apart_given (Some (live f)) file tombstone apart time is = absurd (let no : ◌≡◌ {A = Option ℤ} None (Some time) = is in cc)
apart_given (Some (gone t)) file tombstone apart time is = refl

apart_steps : (state : TableState) (actions : List Action) → IsApart state → IsApart (steps state actions)
apart_steps state actions apart path time is =
    get-files-steps actions state path
    ∙ apart_given (last_some (change_at path) actions) (get state.files path) (get state.tombstones path) (λ t e. apart path t e) time
    (sym (get-tombstones-steps actions state path) ∙ is)

apart_all : (state : TableState) (commits : List (List Action)) → IsApart state → IsApart (steps_of_all state commits)
apart_all state [] apart = apart
apart_all state (actions ∷ commits) apart = apart_all (steps state actions) commits (apart_steps state actions apart)

pub apart_fold : (commits : List (List Action)) → IsApart (fold commits)
apart_fold commits = apart_all empty_state commits (λ path time is. absurd (let no : ◌≡◌ {A = Option ℤ} None (Some time) = sym (get-empty (slice_cmp nat_cmp) path) ∙ is in cc))

-- ---- the cuts follow one another

abbrev pub Files : Type 0
Files = List (List ℕ × AddFile)

take_within : (low high : ℕ) (xs : Files) → low ≤ high → take low (take high xs) ≡ take low xs
take_within zero high xs most = refl
take_within (suc low) zero xs most = absurd (omega arith)
take_within (suc low) (suc high) [] most = refl
take_within (suc low) (suc high) (x ∷ xs) most = ap (λ ys. x ∷ ys) (take_within low high xs (omega arith))

take_more : (low high : ℕ) (xs : Files) → low ≤ high → take high xs ≡ take low xs ++ drop low (take high xs)
take_more low high xs most = sym (take-append-drop low (take high xs)) ∙ ap (λ ys. ys ++ drop low (take high xs)) (take_within low high xs most)

pub goes_up : (before parts count : ℕ) → 1 ≤ parts → files_up_to before parts count ≤ files_up_to (suc before) parts count
goes_up before parts count some =
    let below = div-mul-le_self (before * count) parts in
    le-div (before * count / parts) (suc before * count) parts (omega arith) (omega arith)

pub begins_at_0 : (parts count : ℕ) → files_up_to 0 parts count ≡ 0
begins_at_0 parts count = let none : 0 * count ≡ 0 = omega arith in ap (λ n. n / parts) none ∙ zero-div parts

pub ends_at_all : (parts count : ℕ) → 1 ≤ parts → files_up_to parts parts count ≡ count
ends_at_all parts count some = mul-div_cancel_left count (omega arith)

-- ---- which of the files have a path

has_more : (xs ys : Files) (path : List ℕ) → has_file (xs ++ ys) path ≡ (has_file xs path || has_file ys path)
has_more [] ys path = refl
has_more (x ∷ xs) ys path = by (eq_by_cmp (slice_cmp nat_cmp) path x.0) (has_more xs ys path)
  where
    by : (same : Bool) → has_file (xs ++ ys) path ≡ (has_file xs path || has_file ys path)
        → is_some (cond same (Some x.1) (find (slice_cmp nat_cmp) path (xs ++ ys))) ≡ (is_some (cond same (Some x.1) (find (slice_cmp nat_cmp) path xs)) || has_file ys path)
    by true rest = refl
    by false rest = rest

none_in_rest : (same : Bool) (file : AddFile) (found : Option AddFile) → cond same (Some file) found ≡ None → found ≡ None
none_in_rest true file found none = absurd (let no : ◌≡◌ {A = Option AddFile} (Some file) None = none in cc)
none_in_rest false file found none = none

pub none_in_drop : (n : ℕ) (xs : Files) (path : List ℕ) → find (slice_cmp nat_cmp) path xs ≡ None → find (slice_cmp nat_cmp) path (drop n xs) ≡ None
none_in_drop zero xs path none = none
none_in_drop (suc n) [] path none = refl
none_in_drop (suc n) (x ∷ xs) path none =
    none_in_drop n xs path (none_in_rest (eq_by_cmp (slice_cmp nat_cmp) path x.0) x.1 (find (slice_cmp nat_cmp) path xs) none)

pub none_in_take : (n : ℕ) (xs : Files) (path : List ℕ) → find (slice_cmp nat_cmp) path xs ≡ None → find (slice_cmp nat_cmp) path (take n xs) ≡ None
none_in_take zero xs path none = refl
none_in_take (suc n) [] path none = refl
none_in_take (suc n) (x ∷ xs) path none = by (eq_by_cmp (slice_cmp nat_cmp) path x.0) none (λ rest. none_in_take n xs path rest)
  where
    by : (same : Bool) → cond same (Some x.1) (find (slice_cmp nat_cmp) path xs) ≡ None
        → (find (slice_cmp nat_cmp) path xs ≡ None → find (slice_cmp nat_cmp) path (take n xs) ≡ None)
        → cond same (Some x.1) (find (slice_cmp nat_cmp) path (take n xs)) ≡ None
    by true none rest = absurd (let no : ◌≡◌ {A = Option AddFile} (Some x.1) None = none in cc)
    by false none rest = rest none

-- ---- the state after the first parts

pub record UpTo (state whole : TableState) (files : Files) (horizon : ℤ) : Type 0 where
  pub sets : (path : List ℕ) → get state.files path ≡ (if has_file files path then get whole.files path else None)
  pub protocol : state.protocol ≡ whole.protocol
  pub metadata : state.metadata ≡ whole.metadata
  pub applications : state.applications ≡ whole.applications
  pub domains : state.domains ≡ whole.domains
  pub none_more : (path : List ℕ) (time : ℤ) → get state.tombstones path ≡ Some time → get whole.tombstones path ≡ Some time
  pub unexpired : (path : List ℕ) (time : ℤ) → get whole.tombstones path ≡ Some time → horizon <ℤ time → get state.tombstones path ≡ Some time

pub first_part : (actions : List Action) (whole : TableState) (parts : ℕ) (horizon : ℤ) → SetsAllElse actions whole (share_of 0 parts (files_of whole)) horizon
    → UpTo (steps empty_state actions) whole (take (files_up_to 1 parts (length (files_of whole))) (files_of whole)) horizon
first_part actions whole parts horizon share = record {
  sets = λ path. share.sets path
      ∙ ap (λ n. if has_file (drop n (take (files_up_to 1 parts (length (files_of whole))) (files_of whole))) path then get whole.files path else None)
      (begins_at_0 parts (length (files_of whole)));
  protocol = share.protocol;
  metadata = share.metadata;
  applications = share.applications;
  domains = share.domains;
  none_more = share.none_more;
  unexpired = share.unexpired;
}

one_more : {A : Type 0} (before now : Bool) (x y : A) → (if now then x else (if before then x else y)) ≡ (if before || now then x else y)
one_more true true x y = refl
one_more true false x y = refl
one_more false true x y = refl
one_more false false x y = refl

pub more_parts : (state whole : TableState) (actions : List Action) (low high : ℕ) (horizon : ℤ) → low ≤ high → IsApart whole
    → SetsFiles actions whole (drop low (take high (files_of whole))) → UpTo state whole (take low (files_of whole)) horizon
    → UpTo (steps state actions) whole (take high (files_of whole)) horizon
more_parts state whole actions low high horizon most apart share upto = record {
  sets = λ path.
      share.sets state path
      ∙ ap (λ o. if has_file (drop low (take high (files_of whole))) path then get whole.files path else o) (upto.sets path)
      ∙ one_more (has_file (take low (files_of whole)) path) (has_file (drop low (take high (files_of whole))) path) (get whole.files path) None
      ∙ ap (λ b. if b then get whole.files path else None) (sym (has_more (take low (files_of whole)) (drop low (take high (files_of whole))) path))
      ∙ ap (λ files. if has_file files path then get whole.files path else None) (sym (take_more low high (files_of whole) most));
  protocol = share.protocol state ∙ upto.protocol;
  metadata = share.metadata state ∙ upto.metadata;
  applications = share.applications state ∙ upto.applications;
  domains = share.domains state ∙ upto.domains;
  none_more = λ path time is. upto.none_more path time (stood (has_file (drop low (take high (files_of whole))) path) (get state.tombstones path) time (sym (share.takes state path) ∙ is));
  unexpired = λ path time is above.
      share.takes state path
      ∙ ap (λ found. if is_some found then None else get state.tombstones path)
      (none_in_drop low (take high (files_of whole)) path (none_in_take high (files_of whole) path (sym (get-entries whole.files path) ∙ apart path time is)))
      ∙ upto.unexpired path time is above;
}
  where
    stood : (has : Bool) (before : Option ℤ) (time : ℤ) → (if has then None else before) ≡ Some time → before ≡ Some time
    stood true before time is = absurd (let no : ◌≡◌ {A = Option ℤ} None (Some time) = is in cc)
    stood false before time is = is

if_there : {A : Type 0} (found : Option A) → (if is_some found then found else None) ≡ found
if_there None = refl
if_there (Some x) = refl

-- with all files it is the whole one
pub whole_agrees : (state whole : TableState) (horizon : ℤ) → UpTo state whole (files_of whole) horizon → Agree state whole horizon
whole_agrees state whole horizon upto = record {
  protocol = upto.protocol;
  metadata = upto.metadata;
  files = same_map nat_list_cmp_total text_order state.files whole.files (λ path.
      upto.sets path
      ∙ ap (λ found. if is_some found then get whole.files path else None) (sym (get-entries whole.files path))
      ∙ if_there (get whole.files path));
  applications = upto.applications;
  domains = upto.domains;
  none_more = upto.none_more;
  unexpired = upto.unexpired;
}

-- and so after all parts
pub all_parts : (state whole : TableState) (parts : ℕ) (horizon : ℤ) → 1 ≤ parts
    → UpTo state whole (take (files_up_to parts parts (length (files_of whole))) (files_of whole)) horizon → Agree state whole horizon
all_parts state whole parts horizon some upto = whole_agrees state whole horizon
    (subst (λ files. UpTo state whole files horizon)
    (take_all (files_up_to parts parts (length (files_of whole))) (files_of whole) (let all = ends_at_all parts (length (files_of whole)) some in omega arith)) upto)
