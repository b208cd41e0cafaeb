-- The versions of what a text means are in range.
use Rattle.std.proofs.Common.{◌≡◌, ℕ, ◌<◌, ◌^◌, ◌+◌, List, [], ◌∷◌, refl, subst, Bool, true, false}
use Rattle.std.specs.Prelude.{Option, Some, None, Result, Ok, Err, IfSome, IfOk, nat_lt, option_and_then, option_map, codes, if◌then◌else◌}
use Rattle.std.specs.List.{AllByRecursion}
use Rattle.std.specs.Option.{option_to_list}
use borrow.Author.Tests.{ltb-true}
use Rattle.serde_json.specs.Data.{Data}
use Rattle.serde_json.specs.Find.{as_number, as_u64}
use Rattle.dk_model.specs.declared.action.Action.{Action}
use Rattle.dk_model.specs.declared.action.Action.TheVariants as action
use Rattle.dk_model.specs.declared.action_key.ActionKey.{ActionKey}
use Rattle.dk_model.specs.declared.action_key.ActionKey.TheVariants as key
use Rattle.dk_model.specs.ActionKeys.{name_of, all_keys}
use Rattle.dk_model.specs.ActionObject.{action_under, content_form, keyed, action_of, one_key}
use Rattle.dk_model.specs.CheckpointObjects.{checkpoint_meta_of, sidecar_of}
use Rattle.dk_model.specs.AddObject.{add_of}
use Rattle.dk_model.specs.RemoveObject.{remove_of}
use Rattle.dk_model.specs.TxnObject.{txn_of}
use Rattle.dk_model.specs.DomainObject.{domain_of}
use Rattle.dk_model.specs.MetadataObject.{metadata_of}
use Rattle.dk_model.specs.ProtocolObject.{protocol_of}
use Rattle.dk_model.specs.CommitText.{is_blank, json_of, line_means, lines_of, with_front, after_line, reading, reading_of}
use Rattle.dk_model.specs.Fields.{◌>>=◌, below, version, count, field, needed, optional, names, group}
use Rattle.dk_model.specs.Ranges.{IsProtocolInRange, IsCheckpointMetaInRange}
use Rattle.dk_model.specs.ReadBack.{HasVersionsInRange}

-- ---- answers that may be absent

any : {A : Type 0} (o : Option A) → IfSome o (λ x. Unit {0})
any None = tt
any (Some x) = tt

then_holds : {A B : Type 0} (Q : A → Type 0) (P : B → Type 0) (f : A → Option B) (o : Option A) → IfSome o Q → ((x : A) → Q x → IfSome (f x) P) → IfSome (option_and_then f o) P
then_holds Q P f None before after = tt
then_holds Q P f (Some x) before after = after x before

bind_holds : {A B : Type 0} (Q : A → Type 0) (P : B → Type 0) (f : A → Option B) (o : Option A) → IfSome o Q → ((x : A) → Q x → IfSome (f x) P) → IfSome (o >>= f) P
bind_holds Q P f None before after = tt
bind_holds Q P f (Some x) before after = after x before

map_holds : {A B : Type 0} (Q : A → Type 0) (P : B → Type 0) (f : A → B) (o : Option A) → IfSome o Q → ((x : A) → Q x → P (f x)) → IfSome (option_map f o) P
map_holds Q P f None before after = tt
map_holds Q P f (Some x) before after = after x before

-- ---- numbers

below_is : (limit n : ℕ) → IfSome (below limit n) (λ m. m < limit)
below_is limit n = by (nat_lt n limit) refl
  where
    by : (less : Bool) → nat_lt n limit ≡ less → IfSome (if less then Some n else None) (λ m. m < limit)
    by true is = ltb-true n limit is
    by false is = tt

version_is : (d : Data) → IfSome (version d) (λ n. n < 2 ^ 31)
version_is d = then_holds (λ (n : ℕ). Unit {0}) (λ (n : ℕ). n < 2 ^ 31) (below (2 ^ 31)) (option_and_then as_u64 (as_number d)) (any _) (λ n u. below_is (2 ^ 31) n)

count_is : (d : Data) → IfSome (count d) (λ n. n < 2 ^ 63)
count_is d = then_holds (λ (n : ℕ). Unit {0}) (λ (n : ℕ). n < 2 ^ 63) (below (2 ^ 63)) (option_and_then as_u64 (as_number d)) (any _) (λ n u. below_is (2 ^ 63) n)

needed_is : {A : Type 0} (P : A → Type 0) (form : Data → Option A) → ((d : Data) → IfSome (form d) P) → (name : List ℕ) (d : Data) → IfSome (needed form name d) P
needed_is P form is name d = then_holds (λ (x : Data). Unit {0}) P form (field name d) (any _) (λ x u. is x)

-- ---- objects

protocol_is : (d : Data) → IfSome (protocol_of d) IsProtocolInRange
unfolding protocol_of
protocol_is d =
    bind_holds (λ (n : ℕ). n < 2 ^ 31) IsProtocolInRange _ (needed version (codes "minReaderVersion") d) (needed_is (λ (n : ℕ). n < 2 ^ 31) version version_is (codes "minReaderVersion") d)
    (λ reader r. bind_holds (λ (n : ℕ). n < 2 ^ 31) IsProtocolInRange _ (needed version (codes "minWriterVersion") d) (needed_is (λ (n : ℕ). n < 2 ^ 31) version version_is (codes "minWriterVersion") d)
    (λ writer w. bind_holds (λ (x : Option (List (List ℕ))). Unit {0}) IsProtocolInRange _ (optional names (codes "readerFeatures") d) (any _)
    (λ readers a. bind_holds (λ (x : Option (List (List ℕ))). Unit {0}) IsProtocolInRange _ (optional names (codes "writerFeatures") d) (any _)
    (λ writers b. record { reader = r; writer = w }))))

meta_is : (d : Data) → IfSome (checkpoint_meta_of d) IsCheckpointMetaInRange
unfolding checkpoint_meta_of
meta_is d = bind_holds (λ (n : ℕ). n < 2 ^ 63) IsCheckpointMetaInRange _ (needed count (codes "version") d) (needed_is (λ (n : ℕ). n < 2 ^ 63) count count_is (codes "version") d) (λ n less. record { version = less })

free : {A : Type 0} (make : A → Action) (o : Option A) → ((x : A) → HasVersionsInRange (make x)) → IfSome (option_map make o) HasVersionsInRange
free make o is = map_holds (λ x. Unit {0}) HasVersionsInRange make o (any o) (λ x u. is x)

under_is : (k : ActionKey) (d : Data) → IfSome (action_under k d) HasVersionsInRange
under_is key.Protocol d = map_holds IsProtocolInRange HasVersionsInRange action.Protocol (protocol_of d) (protocol_is d) (λ x is. is)
under_is key.Metadata d = free action.Metadata (metadata_of d) (λ x. tt)
under_is key.Add d = free action.Add (add_of d) (λ x. tt)
under_is key.Remove d = free action.Remove (remove_of d) (λ x. tt)
under_is key.Txn d = free action.Txn (txn_of d) (λ x. tt)
under_is key.Domain d = free action.Domain (domain_of d) (λ x. tt)
under_is key.Info d = tt
under_is key.Cdc d = tt
under_is key.CheckpointMeta d = map_holds IsCheckpointMetaInRange HasVersionsInRange action.CheckpointMeta (checkpoint_meta_of d) (meta_is d) (λ x is. is)
under_is key.Sidecar d = free action.Sidecar (sidecar_of d) (λ x. tt)

abbrev InRange : Option Action → Type 0
InRange o = IfSome o HasVersionsInRange

keyed_is : (d : Data) (k : Option ActionKey) → IfSome (keyed d k) InRange
keyed_is d None = tt
keyed_is d (Some k) =
    map_holds HasVersionsInRange InRange Some (option_and_then (action_under k) (needed (content_form k) (name_of k) d))
    (then_holds (λ (x : Data). Unit {0}) HasVersionsInRange (action_under k) (needed (content_form k) (name_of k) d) (any _) (λ x u. under_is k x)) (λ x is. is)

action_is : (d : Data) → IfSome (action_of d) InRange
action_is d =
    then_holds (λ (x : Data). Unit {0}) InRange (λ o. option_and_then (keyed o) (one_key o all_keys)) (group d) (any _)
    (λ o u. then_holds (λ (x : Option ActionKey). Unit {0}) InRange (keyed o) (one_key o all_keys) (any _) (λ k v. keyed_is o k))

-- ---- lines

line_is : (line : List ℕ) → IfSome (line_means line) InRange
unfolding line_means
line_is line = by (is_blank line)
  where
    by : (blank : Bool) → IfSome (if blank then Some None else option_and_then action_of (json_of line)) InRange
    by true = tt
    by false = then_holds (λ (x : Data). Unit {0}) InRange action_of (json_of line) (any _) (λ d u. action_is d)

abbrev AreInRange : List Action → Type 0
AreInRange actions = AllByRecursion HasVersionsInRange actions

front_is : (a : Option Action) (rest : Result (List Action) ℕ) → InRange a → IfOk rest AreInRange → IfOk (with_front (option_to_list a) rest) AreInRange
front_is None (Ok actions) first later = later
front_is None (Err line) first later = tt
front_is (Some a) (Ok actions) first later = (first, later)
front_is (Some a) (Err line) first later = tt

reading_is : (number : ℕ) (lines : List (List ℕ)) → IfOk (reading number lines) AreInRange
reading_is number [] = tt
reading_is number (line ∷ lines) = by (line_means line) (line_is line) (reading_is (number + 1) lines)
  where
    by : (meant : Option (Option Action)) → IfSome meant InRange → IfOk (reading (number + 1) lines) AreInRange → IfOk (after_line meant number (reading (number + 1) lines)) AreInRange
    by None here later = tt
    by (Some a) here later = front_is a (reading (number + 1) lines) here later

-- what a text means has its versions in range
pub read_in_range : (bytes : List ℕ) (actions : List Action) → reading_of bytes ≡ Ok actions → AllByRecursion HasVersionsInRange actions
read_in_range bytes actions is = subst (λ (r : Result (List Action) ℕ). IfOk r AreInRange) is (reading_is 1 (lines_of bytes))
