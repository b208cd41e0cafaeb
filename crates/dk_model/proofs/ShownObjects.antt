-- What is written for an action is tidy, and nests four deep at most.
use Rattle.std.proofs.Common.{ℕ, ℤ, pos, negsuc, suc, ◌^◌, ◌<◌, ◌≤◌, Bool, List, [], ◌∷◌, map, Option, Some, None, option_map, Ordering, Less, Equal, Greater, nat_cmp, arith}
use Rattle.std.specs.Prelude.{IfSome}
use Rattle.std.specs.Ordering.{match_ordering}
use Rattle.std.specs.Cmp.Lexicographic.{slice_cmp}
use Rattle.serde_json.specs.Data.{unsigned, Data, boolean, number, string, Members, no_members, member, put, depth, items_depth, members_depth}
use Rattle.serde_json.specs.View.{items_of}
use Rattle.dk_model.specs.declared.action.Protocol.{Protocol}
use Rattle.dk_model.specs.declared.action.Metadata.{Metadata}
use Rattle.dk_model.specs.declared.action.AddFile.{AddFile}
use Rattle.dk_model.specs.declared.action.RemoveFile.{RemoveFile}
use Rattle.dk_model.specs.declared.action.Txn.{Txn}
use Rattle.dk_model.specs.declared.action.Domain.{Domain}
use Rattle.dk_model.specs.declared.action.CommitInfo.{CommitInfo}
use Rattle.dk_model.specs.declared.action.CheckpointMeta.{CheckpointMeta}
use Rattle.dk_model.specs.declared.action.SidecarRef.{SidecarRef}
use Rattle.dk_model.specs.declared.action.Action.{Action}
use Rattle.dk_model.specs.declared.action.Action.TheVariants as action
use Rattle.dk_model.specs.Shown.{Field, text_or_null_data, with_pairs, pairs_data, names_data, whole_data, text_data, with_field, with_fields, object_with}
use Rattle.dk_model.specs.ProtocolObject.{protocol_fields}
use Rattle.dk_model.specs.MetadataObject.{format_fields, metadata_fields}
use Rattle.dk_model.specs.AddObject.{add_fields}
use Rattle.dk_model.specs.RemoveObject.{remove_fields}
use Rattle.dk_model.specs.TxnObject.{txn_fields}
use Rattle.dk_model.specs.DomainObject.{domain_fields}
use Rattle.dk_model.specs.CheckpointObjects.{checkpoint_meta_fields, sidecar_fields}
use Rattle.dk_model.specs.InfoObject.{info_fields, own_info_fields, own_info_object}
use Rattle.dk_model.specs.ActionObject.{inner_object, object_of}
use Rattle.dk_model.specs.Ranges.{IsWhole, IsProtocolInRange, IsMetadataInRange, IsAddInRange, IsRemoveInRange, IsTxnInRange, IsInfoInRange, IsCheckpointMetaInRange, IsSidecarInRange, IsInRange}
use Rattle.dk_model.proofs.JsonText.{IsTidy, AreTidy, AreTidyItems, tidy_put}

pub record IsShown (n : ℕ) (d : Data) : Type 0 where
  pub tidy : IsTidy d
  pub shallow : depth d ≤ n

pub record AreShown (n : ℕ) (ms : Members) : Type 0 where
  pub tidy : AreTidy ms
  pub shallow : members_depth ms ≤ n

shallow_choice : (n : ℕ) (o : Ordering) (a b c : Members) → members_depth a ≤ n → members_depth b ≤ n → members_depth c ≤ n → members_depth (match_ordering o a b c) ≤ n
shallow_choice n Less a b c p q r = p
shallow_choice n Equal a b c p q r = q
shallow_choice n Greater a b c p q r = r

shallow_put : (n : ℕ) (k : List ℕ) (d : Data) (ms : Members) → depth d ≤ n → members_depth ms ≤ n → members_depth (put k d ms) ≤ n
shallow_put n k d no_members p q = omega (arith, p)
shallow_put n k d (member l e ms) p q =
    let first : depth e ≤ n = omega (arith, q) in
    let rest : members_depth ms ≤ n = omega (arith, q) in
    let later = shallow_put n k d ms p rest in
    shallow_choice n (slice_cmp nat_cmp k l) _ _ _ (omega (arith, p, q)) (omega (arith, p, rest)) (omega (arith, first, later))

shown_put : (n : ℕ) (k : List ℕ) (d : Data) (ms : Members) → IsShown n d → AreShown n ms → AreShown n (put k d ms)
shown_put n k d ms p q = record { tidy = tidy_put k d ms p.tidy q.tidy; shallow = shallow_put n k d ms p.shallow q.shallow }

-- each field that has a value is tidy
abbrev pub FieldsAreShown : ℕ → List Field → Type 0
FieldsAreShown n [] = Unit {0}
FieldsAreShown n (f ∷ fs) = IfSome f.1 (IsShown n) × FieldsAreShown n fs

shown_field : (n : ℕ) (k : List ℕ) (o : Option Data) (ms : Members) → IfSome o (IsShown n) → AreShown n ms → AreShown n (with_field k o ms)
shown_field n k None ms p q = q
shown_field n k (Some d) ms p q = shown_put n k d ms p q

shown_fields : (n : ℕ) (fs : List Field) (ms : Members) → FieldsAreShown n fs → AreShown n ms → AreShown n (with_fields fs ms)
shown_fields n [] ms p q = q
shown_fields n (f ∷ fs) ms p q = shown_fields n fs (with_field f.0 f.1 ms) p.1 (shown_field n f.0 f.1 ms p.0 q)

shown_none : (n : ℕ) → AreShown n no_members
shown_none n = record { tidy = tt; shallow = omega arith }

pub shown_object : (n : ℕ) (fs : List Field) → FieldsAreShown n fs → IsShown (suc n) (object_with fs)
unfolding object_with
shown_object n fs p = let all = shown_fields n fs no_members p (shown_none n) in record { tidy = all.tidy; shallow = omega (arith, all.shallow) }

-- ---- the forms

shown_text : (t : List ℕ) → IsShown 1 (string t)
shown_text t = record { tidy = tt; shallow = omega arith }

shown_flag : (b : Bool) → IsShown 1 (boolean b)
shown_flag b = record { tidy = tt; shallow = omega arith }

shown_version : (n : ℕ) → n < 2 ^ 31 → IsShown 1 (number (unsigned n))
shown_version n h = record { tidy = omega (arith, h); shallow = omega arith }

shown_count : (n : ℕ) → n < 2 ^ 63 → IsShown 1 (number (unsigned n))
shown_count n h = record { tidy = omega (arith, h); shallow = omega arith }

shown_whole : (z : ℤ) → IsWhole z → IsShown 1 (whole_data z)
shown_whole (pos n) h = record { tidy = omega (arith, h); shallow = omega arith }
shown_whole (negsuc n) h = record { tidy = h; shallow = omega arith }

shown_names : (ns : List (List ℕ)) → IsShown 1 (names_data ns)
shown_names ns = record { tidy = all_tidy ns; shallow = flat ns }
  where
    all_tidy : (ns : List (List ℕ)) → AreTidyItems (items_of (map string ns))
    all_tidy [] = tt
    all_tidy (n ∷ ns) = (tt, all_tidy ns)

    flat : (ns : List (List ℕ)) → suc (items_depth (items_of (map string ns))) ≤ 1
    flat [] = omega arith
    flat (n ∷ ns) = omega (arith, flat ns)

shown_text_or_null : (t : Option (List ℕ)) → IsShown 0 (text_or_null_data t)
shown_text_or_null None = record { tidy = tt; shallow = omega arith }
shown_text_or_null (Some t) = record { tidy = tt; shallow = omega arith }

shown_with_pairs : (ps : List (List ℕ × Option (List ℕ))) (ms : Members) → AreShown 0 ms → AreShown 0 (with_pairs ps ms)
shown_with_pairs [] ms q = q
shown_with_pairs (p ∷ ps) ms q = shown_with_pairs ps _ (shown_put 0 p.0 (text_or_null_data p.1) ms (shown_text_or_null p.1) q)

shown_pairs : (ps : List (List ℕ × Option (List ℕ))) → IsShown 1 (pairs_data ps)
shown_pairs ps = let all = shown_with_pairs ps no_members (shown_none 0) in record { tidy = all.tidy; shallow = omega (arith, all.shallow) }

shown_if : {A : Type 0} (n : ℕ) (shown : A → Data) (P : A → Type 0) (o : Option A) → IfSome o P → ((x : A) → P x → IsShown n (shown x)) → IfSome (option_map shown o) (IsShown n)
shown_if n shown P None h p = tt
shown_if n shown P (Some x) h p = p x h

shown_any : {A : Type 0} (n : ℕ) (shown : A → Data) (o : Option A) → ((x : A) → IsShown n (shown x)) → IfSome (option_map shown o) (IsShown n)
shown_any n shown None p = tt
shown_any n shown (Some x) p = p x

deeper : (m n : ℕ) (d : Data) → m ≤ n → IsShown m d → IsShown n d
deeper m n d le p = record { tidy = p.tidy; shallow = omega (arith, le, p.shallow) }

-- ---- the objects

shown_protocol : (p : Protocol) → IsProtocolInRange p → IsShown 2 (object_with (protocol_fields p))
unfolding protocol_fields
shown_protocol p r = shown_object 1 _ (shown_version _ r.reader, (shown_version _ r.writer, (shown_any 1 names_data p.reader_features shown_names, (shown_any 1 names_data p.writer_features shown_names, tt))))

shown_format : (m : Metadata) → IsShown 2 (object_with (format_fields m))
unfolding format_fields
shown_format m = shown_object 1 _ (shown_pairs m.options, (shown_text _, tt))

shown_metadata : (m : Metadata) → IsMetadataInRange m → IsShown 3 (object_with (metadata_fields m))
unfolding metadata_fields
shown_metadata m r =
    let le : 1 ≤ 2 = omega arith in
    shown_object 2 _ (
      deeper 1 2 _ le (shown_pairs m.configuration),
      (
        shown_if 2 whole_data IsWhole m.created_time r.time (λ z h. deeper 1 2 _ le (shown_whole z h)),
        (
          shown_any 2 text_data m.description (λ t. deeper 1 2 _ le (shown_text t)),
          (shown_format m, (deeper 1 2 _ le (shown_text _), (shown_any 2 text_data m.name (λ t. deeper 1 2 _ le (shown_text t)), (deeper 1 2 _ le (shown_names m.partition_columns), (deeper 1 2 _ le (shown_text _), tt))))),
        ),
      ),
    )

shown_add : (f : AddFile) → IsAddInRange f → IsShown 2 (object_with (add_fields f))
unfolding add_fields
shown_add f r =
    shown_object 1 _ (
      shown_if 1 whole_data IsWhole f.base_row_id r.row shown_whole,
      (
        shown_any 1 text_data f.clustering_provider shown_text,
        (
          shown_flag _,
          (
            shown_if 1 whole_data IsWhole f.default_row_commit_version r.version shown_whole,
            (shown_whole f.modification_time r.time, (shown_pairs f.partition_values, (shown_text _, (shown_whole f.size r.size, (shown_any 1 text_data f.stats shown_text, (shown_any 1 pairs_data f.tags shown_pairs, tt)))))),
          ),
        ),
      ),
    )

shown_remove : (r : RemoveFile) → IsRemoveInRange r → IsShown 2 (object_with (remove_fields r))
unfolding remove_fields
shown_remove r h = shown_object 1 _ (shown_flag _, (shown_whole r.deletion_timestamp h.time, (shown_text _, tt)))

shown_txn : (t : Txn) → IsTxnInRange t → IsShown 2 (object_with (txn_fields t))
unfolding txn_fields
shown_txn t h = shown_object 1 _ (shown_text _, (shown_if 1 whole_data IsWhole t.last_updated h.updated shown_whole, (shown_whole t.version h.version, tt)))

shown_domain : (d : Domain) → IsShown 2 (object_with (domain_fields d))
unfolding domain_fields
shown_domain d = shown_object 1 _ (shown_text _, (shown_text _, (shown_flag _, tt)))

shown_checkpoint_meta : (m : CheckpointMeta) → IsCheckpointMetaInRange m → IsShown 2 (object_with (checkpoint_meta_fields m))
unfolding checkpoint_meta_fields
shown_checkpoint_meta m h = shown_object 1 _ (shown_count _ h.version, tt)

shown_sidecar : (r : SidecarRef) → IsSidecarInRange r → IsShown 2 (object_with (sidecar_fields r))
unfolding sidecar_fields
shown_sidecar r h = shown_object 1 _ (shown_whole r.stamp h.stamp, (shown_text _, (shown_whole r.size h.size, tt)))

shown_info : (i : CommitInfo) → IsInfoInRange i → IsShown 2 (object_with (info_fields i))
unfolding info_fields
shown_info i r = shown_object 1 _ (shown_if 1 whole_data IsWhole i.in_commit_timestamp r.timestamp shown_whole, (shown_any 1 text_data i.txn_id shown_text, tt))

shown_inner : (a : Action) → IsInRange a → IsShown 3 (inner_object a)
shown_inner (action.Protocol p) r = deeper 2 3 _ (omega arith) (shown_protocol p r)
shown_inner (action.Metadata m) r = shown_metadata m r
shown_inner (action.Add f) r = deeper 2 3 _ (omega arith) (shown_add f r)
shown_inner (action.Remove f) r = deeper 2 3 _ (omega arith) (shown_remove f r)
shown_inner (action.Txn t) r = deeper 2 3 _ (omega arith) (shown_txn t r)
shown_inner (action.Domain d) r = deeper 2 3 _ (omega arith) (shown_domain d)
shown_inner (action.Info i) r = deeper 2 3 _ (omega arith) (shown_info i r)
shown_inner action.Cdc r = shown_object 2 [] tt
shown_inner (action.CheckpointMeta m) r = deeper 2 3 _ (omega arith) (shown_checkpoint_meta m r)
shown_inner (action.Sidecar s) r = deeper 2 3 _ (omega arith) (shown_sidecar s r)

pub shown_action : (a : Action) → IsInRange a → IsShown 4 (object_of a)
shown_action a r = shown_object 3 _ (shown_inner a r, tt)

pub shown_own_info : (txn_id : List ℕ) (timestamp : ℤ) → IsWhole timestamp → IsShown 3 (own_info_object txn_id timestamp)
unfolding own_info_fields
shown_own_info txn_id timestamp r = shown_object 2 _ (shown_object 1 (own_info_fields txn_id timestamp) (shown_text _, (shown_whole timestamp r, (shown_text txn_id, tt))), tt)
