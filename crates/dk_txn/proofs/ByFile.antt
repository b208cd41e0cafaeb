-- What is to be written comes by file: a table that a catalogue manages stays so, and none is written so far.
use Rattle.std.proofs.Common.{◌≡◌, ℕ, Bool, true, false, true≢false, List, [], ◌∷◌, length, refl, ap, sym, ◌∙◌, filter_map, if◌then◌else◌}
use Rattle.std.specs.Prelude.{Option, Some, None, Result, Ok, Err}
use Rattle.std.specs.List.{list_all}
use Rattle.std.proofs.lemmas.Bool.{and_parts}
use Rattle.dk_model.specs.declared.action.Action.{Action}
use Rattle.dk_model.specs.declared.action.Action.TheVariants as action
use Rattle.dk_model.specs.declared.action.Protocol.{Protocol}
use Rattle.dk_model.specs.declared.kind.Kind.{Kind}
use Rattle.dk_model.specs.declared.state.TableState.{TableState}
use Rattle.dk_model.specs.Changes.{protocol_in}
use Rattle.dk_model.specs.State.{step, steps}
use Rattle.dk_features.specs.Names.{catalog_managed}
use Rattle.dk_features.specs.InForce.{has_feature}
use Rattle.dk_features.specs.Forms.{has_form, keeps_features}
use Rattle.dk_features.proofs.StayInForce.{stays}
use Rattle.dk_engine.specs.declared.refusal.Refusal.{Refusal}
use Rattle.dk_lawful.specs.History.{By_file, By_catalogue}
use Rattle.dk_lawful.specs.Managed.{is_managed}
use Rattle.dk_lawful.specs.Rules.{is_not_lower, may_follow, is_protocol_kept, keeps_heads, keeps_kinds, keeps_paths_apart, keeps_names_apart, keeps_protocol}
use Rattle.dk_lawful.specs.SoFar.{first_broken_so_far}
use Rattle.dk_snapshot.specs.Steps.{fits}
use Rattle.dk_txn.specs.declared.start.Start.{Start}
use Rattle.dk_txn.specs.declared.transaction.Transaction.{Transaction}
use Rattle.dk_txn.specs.Attempt.{way_of, unbuilt, own_commit, commit_text, allowed, Writing, written_after, if_allowed, if_within, start, attempt_from}
use Rattle.dk_txn.specs.FitLaws.{AttemptedByFile}
use Rattle.dk_txn.specs.Transactions.{headed, oldest_of, unless_conflict, and_also, may_come}
use Rattle.dk_txn.proofs.Next.{within_is}
use Rattle.dk_txn.proofs.Readable.{passed}
use Rattle.dk_txn.proofs.RulesOfLaw.{kept_has_neither}
use Rattle.dk_txn.proofs.Written.{no_rule}

-- the features of the protocol before are in force after one that keeps rule 5
feature_kept : (before : Option Protocol) (p : Protocol) (name : List ℕ) → is_protocol_kept before p ≡ true → has_feature before name ≡ true → has_feature (Some p) name ≡ true
unfolding has_feature
feature_kept None p name keeps now = absurd (true≢false (sym now))
feature_kept (Some b) p name keeps now =
    let both = and_parts (has_form p) (may_follow (Some b) p) keeps in
    stays b p name ((and_parts (is_not_lower b p) (keeps_features b p) both.1).1) now

feature_after : (before : Option Protocol) (name : List ℕ) → has_feature before name ≡ true → (s : TableState) (actions : List Action)
    → list_all (is_protocol_kept before) (filter_map protocol_in actions) ≡ true → has_feature s.protocol name ≡ true → has_feature (steps s actions).protocol name ≡ true
feature_after before name first s [] keeps now = now
feature_after before name first s (action.Protocol p ∷ rest) keeps now =
    let both = and_parts (is_protocol_kept before p) _ keeps in
    feature_after before name first (step s (action.Protocol p)) rest both.1 (feature_kept before p name both.0 first)
feature_after before name first s (a ∷ rest) keeps now = feature_after before name first (step s a) rest keeps now

keeps_fifth : (before : TableState) (version : ℕ) (actions : List Action) → first_broken_so_far before version actions ≡ None → keeps_protocol before actions ≡ true
keeps_fifth before version actions valid =
    let one = passed (keeps_heads version actions) 1 _ valid in
    let two = passed (keeps_kinds actions) 2 _ one.1 in
    let three = passed (keeps_paths_apart actions) 3 _ two.1 in
    let four = passed (keeps_names_apart actions) 4 _ three.1 in
    (passed (keeps_protocol before actions) 5 _ four.1).0

-- what keeps the rules that are built comes after a table that no catalogue manages
pub unmanaged_before : (before : TableState) (version : ℕ) (actions : List Action) (id : ℕ) → first_broken_so_far before version (own_commit id actions) ≡ None → is_managed before ≡ false
unmanaged_before before version actions id none = by (is_managed before) refl
  where
    by : (managed : Bool) → is_managed before ≡ managed → managed ≡ false
    by false is = refl
    by true is =
        let after : has_feature (steps before (own_commit id actions)).protocol catalog_managed ≡ true =
        feature_after before.protocol catalog_managed is before (own_commit id actions) (keeps_fifth before version (own_commit id actions) none) is in
        absurd (true≢false (sym after ∙ (kept_has_neither before version actions id none).unmanaged))

pub file_way : (before : TableState) → is_managed before ≡ false → way_of before ≡ By_file
file_way before is = ap (λ (managed : Bool). if managed then By_catalogue else By_file) is

pub allowed_by_file : (from : Start) (actions : List Action) (id : ℕ) (u : Unit {0}) → allowed from actions id ≡ Ok u → way_of from.before ≡ By_file
allowed_by_file from actions id u may =
    file_way from.before (unmanaged_before from.before from.version actions id (no_rule (unbuilt from.before actions) (first_broken_so_far from.before from.version (own_commit id actions)) u may))

-- ---- a transaction

passed_last : (first last : Result (Unit {0}) Refusal) (u : Unit {0}) → and_also first last ≡ Ok u → last ≡ Ok u
passed_last (Ok v) last u is = is
passed_last (Err refusal) last u is = absurd (let no : ◌≡◌ {A = Result (Unit {0}) Refusal} (Err refusal) (Ok u) = is in cc)

passed_first : (first last : Result (Unit {0}) Refusal) (u : Unit {0}) → and_also first last ≡ Ok u → first ≡ Ok u
passed_first (Ok v) last u is = refl
passed_first (Err refusal) last u is = is

pub may_allowed : (t : Transaction) (from : Start) (conflict : Option (ℕ × Kind)) (u : Unit {0}) → may_come t from conflict ≡ Ok u → allowed from t.actions.items t.id ≡ Ok u
may_allowed t from conflict u may =
    passed_first (allowed from t.actions.items t.id) (unless_conflict conflict) u
    (passed_last (headed (oldest_of t.segment) from) (and_also (allowed from t.actions.items t.id) (unless_conflict conflict)) u may)

-- the writing of what may come
pub written_by : (may : Result (Unit {0}) Refusal) (from : Start) (limit : ℕ) (text : List ℕ) (writing : Writing) → ((u : Unit {0}) → may ≡ Ok u → way_of from.before ≡ By_file)
    → if_allowed may (if_within limit (written_after from text)) ≡ Ok writing → writing.way ≡ By_file
written_by (Err refusal) from limit text writing way done = absurd (let no : ◌≡◌ {A = Result Writing Refusal} (Err refusal) (Ok writing) = done in cc)
written_by (Ok u) from limit text writing way done = ap (λ (w : Writing). w.way) (sym (within_is (fits limit (Some (length text))) (written_after from text) writing done)) ∙ way u refl

-- ---- a plain attempt

pub attempted_by_file : AttemptedByFile
attempted_by_file events limits actions now id writing is = by (start events limits now) is
  where
    by : (begun : Result Start Refusal) → attempt_from begun limits actions now id ≡ Ok writing → writing.way ≡ By_file
    by (Err refusal) done = absurd (let no : ◌≡◌ {A = Result Writing Refusal} (Err refusal) (Ok writing) = done in cc)
    by (Ok from) done = written_by (allowed from actions id) from limits.object (commit_text id now actions) writing (λ u may. allowed_by_file from actions id u may) done
