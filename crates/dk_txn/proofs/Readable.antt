-- The text of a commit that keeps the rules is read back as that commit.
use Rattle.std.proofs.Common.{◌≡◌, ℕ, ℤ, suc, ◌<◌, ◌≤◌, ◌^◌, Bool, true, false, not, ◌&&◌, List, [], ◌∷◌, ◌++◌, length, Some, None, refl, ap, sym, ◌∙◌, true≢false, arith, filter_map}
use Rattle.std.specs.Prelude.{Option, ◌==◌, ◌||◌, nat_le, int_le, pos, if◌then◌else◌}
use Rattle.std.specs.List.{AllByRecursion, list_all}
use Rattle.std.specs.Str.{IsUtf8}
use Rattle.std.proofs.lemmas.Bool.{and_parts, eqb-true, leb-true}
use Rattle.dk_model.specs.declared.action.Protocol.{Protocol}
use Rattle.dk_model.specs.declared.action.AddFile.{AddFile}
use Rattle.dk_model.specs.declared.action.Action.{Action}
use Rattle.dk_model.specs.declared.action.Action.TheVariants as action
use Rattle.dk_model.specs.declared.state.TableState.{TableState}
use Rattle.dk_model.specs.CommitText.{commit_of}
use Rattle.dk_model.specs.State.{steps}
use Rattle.dk_model.specs.Ranges.{IsWhole, IsProtocolInRange}
use Rattle.dk_model.specs.ReadBack.{IsSound, IsReadable, own_info, written_of}
use Rattle.dk_model.specs.Written.{own_info_line, text_of}
use Rattle.dk_model.proofs.LinesBack.{own_reads_back, writable}
use Rattle.dk_features.specs.Forms.{is_first_reader, has_form_with, has_form}
use Rattle.dk_lawful.specs.Rules.{info_in, may_be_committed, may_follow, is_protocol_kept, is_plain_add, keeps_heads, keeps_kinds, keeps_paths_apart, keeps_names_apart, keeps_protocol, begins_unenabled, keeps_rows, keeps_domains, keeps_adds}
use Rattle.dk_model.specs.Changes.{protocol_in}
use Rattle.dk_lawful.specs.SoFar.{first_broken_so_far, is_written_so_far}

-- the tests in a row that no rule broken passes
pub passed : (kept : Bool) (rule : ℕ) (rest : Option ℕ) → (if not kept then Some rule else rest) ≡ None → (kept ≡ true) × (rest ≡ None)
passed true rule rest none = (refl, none)
passed false rule rest none = absurd (let no : ◌≡◌ {A = Option ℕ} (Some rule) None = none in cc)

first_reader : (version : ℕ) → is_first_reader version ≡ true → version < 2 ^ 31
first_reader version is = by (version == 1) (version == 2) refl refl is
  where
    by : (one two : Bool) → (version == 1) ≡ one → (version == 2) ≡ two → (one || two) ≡ true → version < 2 ^ 31
    by true two first second is = let same : version ≡ 1 = eqb-true version 1 first in omega arith
    by false true first second is = let same : version ≡ 2 = eqb-true version 2 second in omega arith
    by false false first second is = absurd (true≢false (sym is))

at : (version number : ℕ) → number < 2 ^ 31 → (version == number) ≡ true → version < 2 ^ 31
at version number small is = let same : version ≡ number = eqb-true version number is in omega arith

-- the versions of a protocol that has one of the forms are in range
form_in_range : (reader writer : ℕ) (readers writers : Option (List (List ℕ))) → has_form_with reader writer readers writers ≡ true → (reader < 2 ^ 31) × (writer < 2 ^ 31)
form_in_range reader writer None None form =
    let both = and_parts (is_first_reader reader) (nat_le 1 writer && nat_le writer 6) form in
    let most : writer ≤ 6 = leb-true writer 6 ((and_parts (nat_le 1 writer) (nat_le writer 6) both.1).1) in
    (first_reader reader both.0, omega arith)
form_in_range reader writer None (Some names) form =
    let both = and_parts (is_first_reader reader) (writer == 7) ((and_parts (is_first_reader reader && writer == 7) _ form).0) in
    (first_reader reader both.0, at writer 7 (omega arith) both.1)
form_in_range reader writer (Some names) None form = absurd (true≢false (sym form))
form_in_range reader writer (Some names) (Some others) form =
    let both = and_parts (reader == 3) (writer == 7) ((and_parts (reader == 3 && writer == 7) _ form).0) in
    (at reader 3 (omega arith) both.0, at writer 7 (omega arith) both.1)

kept_in_range : (before : Option Protocol) (p : Protocol) → is_protocol_kept before p ≡ true → IsProtocolInRange p
unfolding has_form
kept_in_range before p keeps =
    let versions = form_in_range p.min_reader p.min_writer p.reader_features p.writer_features ((and_parts (has_form p) (may_follow before p) keeps).0) in
    record { reader = versions.0; writer = versions.1 }

bare : (f : AddFile) → is_plain_add (action.Add f) ≡ true → f.vector ≡ false
bare f keeps = negated f.vector ((and_parts (int_le (pos 0) f.size) (not f.vector) keeps).1)
  where
    negated : (b : Bool) → not b ≡ true → b ≡ false
    negated true e = absurd (true≢false (sym e))
    negated false e = refl

-- what is committed is read: its protocol has one of the forms, and no vector stands beside its files
readable : (before : Option Protocol) (actions : List Action) → list_all (is_protocol_kept before) (filter_map protocol_in actions) ≡ true → list_all may_be_committed actions ≡ true → keeps_adds actions ≡ true
    → AllByRecursion IsReadable actions
readable before [] forms kinds adds = tt
readable before (action.Protocol p ∷ actions) forms kinds adds =
    let both = and_parts (is_protocol_kept before p) _ forms in
    (record { versions = kept_in_range before p both.0; no_vector = refl }, readable before actions both.1 kinds adds)
readable before (action.Metadata m ∷ actions) forms kinds adds = (record { versions = tt; no_vector = refl }, readable before actions forms kinds adds)
readable before (action.Add f ∷ actions) forms kinds adds =
    let both = and_parts (is_plain_add (action.Add f)) _ adds in
    (record { versions = tt; no_vector = bare f both.0 }, readable before actions forms kinds both.1)
readable before (action.Remove r ∷ actions) forms kinds adds = (record { versions = tt; no_vector = refl }, readable before actions forms kinds adds)
readable before (action.Txn t ∷ actions) forms kinds adds = (record { versions = tt; no_vector = refl }, readable before actions forms kinds adds)
readable before (action.Domain d ∷ actions) forms kinds adds = (record { versions = tt; no_vector = refl }, readable before actions forms kinds adds)
readable before (action.Info i ∷ actions) forms kinds adds = (record { versions = tt; no_vector = refl }, readable before actions forms kinds adds)
readable before (action.Cdc ∷ actions) forms kinds adds = absurd (true≢false (sym kinds))
readable before (action.CheckpointMeta m ∷ actions) forms kinds adds = absurd (true≢false (sym kinds))
readable before (action.Sidecar r ∷ actions) forms kinds adds = absurd (true≢false (sym kinds))

-- where nothing is said of another commit, each action has a line
all_written : (actions : List Action) → length (filter_map info_in actions) ≡ 0 → list_all may_be_committed actions ≡ true → written_of actions ≡ actions
all_written [] none kinds = refl
all_written (action.Protocol p ∷ actions) none kinds = ap (λ (rest : List Action). action.Protocol p ∷ rest) (all_written actions none kinds)
all_written (action.Metadata m ∷ actions) none kinds = ap (λ (rest : List Action). action.Metadata m ∷ rest) (all_written actions none kinds)
all_written (action.Add f ∷ actions) none kinds = ap (λ (rest : List Action). action.Add f ∷ rest) (all_written actions none kinds)
all_written (action.Remove r ∷ actions) none kinds = ap (λ (rest : List Action). action.Remove r ∷ rest) (all_written actions none kinds)
all_written (action.Txn t ∷ actions) none kinds = ap (λ (rest : List Action). action.Txn t ∷ rest) (all_written actions none kinds)
all_written (action.Domain d ∷ actions) none kinds = ap (λ (rest : List Action). action.Domain d ∷ rest) (all_written actions none kinds)
all_written (action.Info i ∷ actions) none kinds = absurd (omega (arith, none))
all_written (action.Cdc ∷ actions) none kinds = absurd (true≢false (sym kinds))
all_written (action.CheckpointMeta m ∷ actions) none kinds = absurd (true≢false (sym kinds))
all_written (action.Sidecar r ∷ actions) none kinds = absurd (true≢false (sym kinds))

pub record ReadsAsItself (actions : List Action) : Type 0 where
  pub each : AllByRecursion IsReadable actions
  pub written : written_of actions ≡ actions

-- a commit that keeps the rules, by the commit's own line and the actions behind it
pub valid_reads : (txn_id : List ℕ) (before : TableState) (version : ℕ) (actions : List Action) → first_broken_so_far before version (own_info txn_id ∷ actions) ≡ None → ReadsAsItself actions
valid_reads txn_id before version actions valid =
    let one = passed (keeps_heads version (own_info txn_id ∷ actions)) 1 _ valid in
    let two = passed (keeps_kinds (own_info txn_id ∷ actions)) 2 _ one.1 in
    let three = passed (keeps_paths_apart (own_info txn_id ∷ actions)) 3 _ two.1 in
    let four = passed (keeps_names_apart (own_info txn_id ∷ actions)) 4 _ three.1 in
    let five = passed (keeps_protocol before (own_info txn_id ∷ actions)) 5 _ four.1 in
    let six = passed (is_written_so_far (steps before (own_info txn_id ∷ actions)).protocol (steps before (own_info txn_id ∷ actions)).metadata) 6 _ five.1 in
    let seven = passed (keeps_rows before (own_info txn_id ∷ actions)) 7 _ six.1 in
    let eight = passed (keeps_domains before (own_info txn_id ∷ actions)) 8 _ seven.1 in
    let nine = passed (begins_unenabled version (steps before (own_info txn_id ∷ actions)).metadata) 9 _ eight.1 in
    let eleven = passed (keeps_adds (own_info txn_id ∷ actions)) 11 _ nine.1 in
    let kinds = and_parts (nat_le (suc (length (filter_map info_in actions))) 1) (list_all may_be_committed actions) two.0 in
    let few : suc (length (filter_map info_in actions)) ≤ 1 = leb-true (suc (length (filter_map info_in actions))) 1 kinds.0 in
    record { each = readable before.protocol actions five.0 kinds.1 eleven.0; written = all_written actions (omega arith) kinds.1 }

-- a whole text, by its lines
pub text_reads : (txn_id : List ℕ) (now : ℤ) (actions : List Action) (text : List ℕ) → IsUtf8 txn_id → IsWhole now → AllByRecursion IsSound actions → text ≡ own_info_line txn_id now ++ text_of actions
    → AllByRecursion IsReadable actions → commit_of text ≡ Some (own_info txn_id ∷ written_of actions)
text_reads txn_id now actions text utf8 whole sound is each = ap commit_of is ∙ own_reads_back txn_id now actions utf8 whole (writable actions sound each)
