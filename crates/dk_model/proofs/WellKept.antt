-- A state stays as writers of checkpoints need it.
use Rattle.std.proofs.Common.{◌≡◌, ◌⊎◌, inl, inr, ℕ, ℤ, List, Option, Some, None, IfSome, Bool, true, false, refl, sym, ap, subst, cond, ◌∙◌, [], nat_cmp, Global}
use Rattle.std.proofs.lemmas.Map.Text.{is_eq-slice_cmp}
use Rattle.std.proofs.lemmas.Slice.Eq.{bytes_eq-Decides}
use Rattle.std.specs.Option.{option_or}
use Rattle.std.specs.FinMap.{get}
use Rattle.std.specs.FinMap as map
use Rattle.std.specs.Cmp.Lexicographic.{slice_cmp}
use Rattle.dk_model.specs.State.{application_of, step, empty_state}
use Rattle.dk_model.specs.Changes.{Change, live, gone, is_same_text, change_at, application_at}
use Rattle.dk_model.specs.Ranges.{IsWhole, IsProtocolInRange, IsMetadataInRange, IsAddInRange, IsApplicationInRange, IsInRange}
use Rattle.dk_model.specs.WellKept.{IsWellKept, StaysWellKept}
use Rattle.dk_model.specs.declared.action.Action.{Action}
use Rattle.dk_model.specs.declared.action.AddFile.{AddFile}
use Rattle.dk_model.specs.declared.action.Action.TheVariants as action
use Rattle.dk_model.specs.declared.state.TableState.{TableState}
use Rattle.dk_model.specs.declared.state.Application.{Application}
use Rattle.dk_model.proofs.TextMaps.{get_text}
use Rattle.dk_model.proofs.Changes.{file_given, tombstone_given, get-files-step, get-tombstones-step, get-applications-step}

-- a fact of what a path has, before and after its change
file_after : (P : AddFile → Type 0) (c : Option Change) (old : Option AddFile) → IfSome old P → ((f : AddFile) → c ≡ Some (live f) → P f) → IfSome (file_given c old) P
file_after P None old h new = h
file_after P (Some (live f)) old h new = new f refl
file_after P (Some (gone t)) old h new = tt

tombstone_after : (P : ℤ → Type 0) (c : Option Change) (old : Option ℤ) → IfSome old P → ((t : ℤ) → c ≡ Some (gone t) → P t) → IfSome (tombstone_given c old) P
tombstone_after P None old h new = h
tombstone_after P (Some (live f)) old h new = tt
tombstone_after P (Some (gone t)) old h new = new t refl

apart_after : (c : Option Change) (f : Option AddFile) (t : Option ℤ) → (f ≡ None) ⊎ (t ≡ None) → (file_given c f ≡ None) ⊎ (tombstone_given c t ≡ None)
apart_after None f t h = h
apart_after (Some (live g)) f t h = inr refl
apart_after (Some (gone u)) f t h = inl refl

same_path : (q p : List ℕ) → is_same_text q p ≡ true → q ≡ p
same_path q p h = (bytes_eq-Decides q p).0 (sym (is_eq-slice_cmp q p) ∙ h)

live_when : (b : Bool) (f g : AddFile) → cond b (Some (live f)) None ≡ Some (live g) → (b ≡ true) × (f ≡ g)
live_when true f g e = (refl, cc)
live_when false f g e = cc

gone_when : (b : Bool) (t u : ℤ) → cond b (Some (gone t)) None ≡ Some (gone u) → (b ≡ true) × (t ≡ u)
gone_when true t u e = (refl, cc)
gone_when false t u e = cc

never_live : (b : Bool) (t : ℤ) (g : AddFile) → cond b (Some (gone t)) None ≡ Some (live g) → ⊥
never_live true t g e = cc
never_live false t g e = cc

never_gone : (b : Bool) (f : AddFile) (u : ℤ) → cond b (Some (live f)) None ≡ Some (gone u) → ⊥
never_gone true f u e = cc
never_gone false f u e = cc

-- what an action makes live stands under its path, changes no data, and is in its ranges
made_live : (a : Action) (q : List ℕ) (g : AddFile) → IsInRange a → change_at q a ≡ Some (live g) → (g.path ≡ q) × (g.data_change ≡ false) × IsAddInRange g
made_live (action.Protocol p) q g r e = cc
made_live (action.Metadata m) q g r e = cc
made_live (action.Add f) q g r e =
    let kept : AddFile = record f { data_change = false } in
    let when = live_when (is_same_text q f.path) kept g e in
    let ranges : IsAddInRange kept = record { size = r.size; time = r.time; row = r.row; version = r.version } in
    (sym (ap (λ x. x.path) when.1) ∙ sym (same_path q f.path when.0), sym (ap (λ x. x.data_change) when.1), subst IsAddInRange when.1 ranges)
made_live (action.Remove f) q g r e = absurd (never_live (is_same_text q f.path) f.deletion_timestamp g e)
made_live (action.Txn x) q g r e = cc
made_live (action.Domain d) q g r e = cc
made_live (action.Info i) q g r e = cc
made_live action.Cdc q g r e = cc
made_live (action.CheckpointMeta m) q g r e = cc
made_live (action.Sidecar s) q g r e = cc

made_gone : (a : Action) (q : List ℕ) (t : ℤ) → IsInRange a → change_at q a ≡ Some (gone t) → IsWhole t
made_gone (action.Protocol p) q t r e = cc
made_gone (action.Metadata m) q t r e = cc
made_gone (action.Add f) q t r e = absurd (never_gone (is_same_text q f.path) (record f { data_change = false }) t e)
made_gone (action.Remove f) q t r e = subst IsWhole (gone_when (is_same_text q f.path) f.deletion_timestamp t e).1 r.time
made_gone (action.Txn x) q t r e = cc
made_gone (action.Domain d) q t r e = cc
made_gone (action.Info i) q t r e = cc
made_gone action.Cdc q t r e = cc
made_gone (action.CheckpointMeta m) q t r e = cc
made_gone (action.Sidecar s) q t r e = cc

protocol_after : (s : TableState) (a : Action) → IsWellKept s → IsInRange a → IfSome (step s a).protocol IsProtocolInRange
protocol_after s (action.Protocol p) k r = r
protocol_after s (action.Metadata m) k r = k.protocol
protocol_after s (action.Add f) k r = k.protocol
protocol_after s (action.Remove f) k r = k.protocol
protocol_after s (action.Txn t) k r = k.protocol
protocol_after s (action.Domain d) k r = k.protocol
protocol_after s (action.Info i) k r = k.protocol
protocol_after s action.Cdc k r = k.protocol
protocol_after s (action.CheckpointMeta m) k r = k.protocol
protocol_after s (action.Sidecar x) k r = k.protocol

metadata_after : (s : TableState) (a : Action) → IsWellKept s → IsInRange a → IfSome (step s a).metadata IsMetadataInRange
metadata_after s (action.Protocol p) k r = k.metadata
metadata_after s (action.Metadata m) k r = r
metadata_after s (action.Add f) k r = k.metadata
metadata_after s (action.Remove f) k r = k.metadata
metadata_after s (action.Txn t) k r = k.metadata
metadata_after s (action.Domain d) k r = k.metadata
metadata_after s (action.Info i) k r = k.metadata
metadata_after s action.Cdc k r = k.metadata
metadata_after s (action.CheckpointMeta m) k r = k.metadata
metadata_after s (action.Sidecar x) k r = k.metadata

-- a fact of each file holds after a step where it holds before and of what the step makes live
files_after : (P : AddFile → Type 0) (s : TableState) (a : Action) (q : List ℕ) → IfSome (get s.files q) P → ((f : AddFile) → change_at q a ≡ Some (live f) → P f) → IfSome (get (step s a).files q) P
files_after P s a q before made = subst (λ o. IfSome o P) (sym (get-files-step s a q)) (file_after P (change_at q a) (get s.files q) before made)

application_after : (P : Application → Type 0) (given old : Option Application) → IfSome old P → ((a : Application) → given ≡ Some a → P a) → IfSome (option_or given old) P
application_after P None old h new = h
application_after P (Some a) old h new = new a refl

recorded_when : (b : Bool) (x y : Application) → cond b (Some x) None ≡ Some y → x ≡ y
recorded_when true x y e = cc
recorded_when false x y e = cc

-- what is recorded of an application is in its ranges
recorded : (a : Action) (q : List ℕ) (x : Application) → IsInRange a → application_at q a ≡ Some x → IsApplicationInRange x
recorded (action.Protocol p) q x r e = cc
recorded (action.Metadata m) q x r e = cc
recorded (action.Add f) q x r e = cc
recorded (action.Remove f) q x r e = cc
recorded (action.Txn t) q x r e =
    let ranges : IsApplicationInRange (application_of t) = record { version = r.version; updated = r.updated } in
    subst IsApplicationInRange (recorded_when (is_same_text q t.app_id) (application_of t) x e) ranges
recorded (action.Domain d) q x r e = cc
recorded (action.Info i) q x r e = cc
recorded action.Cdc q x r e = cc
recorded (action.CheckpointMeta m) q x r e = cc
recorded (action.Sidecar s) q x r e = cc

pub step_keeps : (s : TableState) (a : Action) → IsWellKept s → IsInRange a → IsWellKept (step s a)
step_keeps s a k r = record {
  own_path = λ q. files_after (λ f. f.path ≡ q) s a q (k.own_path q) (λ f e. (made_live a q f r e).0);
  unchanged = λ q. files_after (λ f. f.data_change ≡ false) s a q (k.unchanged q) (λ f e. (made_live a q f r e).1);
  apart = λ q. subst (λ o. (o ≡ None) ⊎ (get (step s a).tombstones q ≡ None)) (sym (get-files-step s a q))
      (subst (λ o. (file_given (change_at q a) (get s.files q) ≡ None) ⊎ (o ≡ None)) (sym (get-tombstones-step s a q))
      (apart_after (change_at q a) (get s.files q) (get s.tombstones q) (k.apart q)));
  protocol = protocol_after s a k r;
  metadata = metadata_after s a k r;
  files = λ q. files_after IsAddInRange s a q (k.files q) (λ f e. (made_live a q f r e).2);
  tombstones = λ q. subst (λ o. IfSome o IsWhole) (sym (get-tombstones-step s a q)) (tombstone_after IsWhole (change_at q a) (get s.tombstones q) (k.tombstones q) (λ t e. made_gone a q t r e));
  applications = λ q. subst (λ o. IfSome o IsApplicationInRange) (sym (get-applications-step s a q))
      (application_after IsApplicationInRange (application_at q a) (get s.applications q) (k.applications q) (λ x e. recorded a q x r e));
}

nothing_at : {X : Type 0} (P : X → Type 0) (q : List ℕ) → IfSome (map.get (map.empty {X = X} {R = slice_cmp nat_cmp}) q) P
nothing_at {X} P q = subst (λ o. IfSome o P) (sym (get_text {Y = Global} {X = X} [] q)) tt

pub empty_is_kept : IsWellKept empty_state
empty_is_kept = record {
  own_path = λ q. nothing_at (λ f. f.path ≡ q) q;
  unchanged = λ q. nothing_at (λ f. f.data_change ≡ false) q;
  apart = λ q. inl (get_text {Y = Global} {X = AddFile} [] q);
  protocol = tt;
  metadata = tt;
  files = λ q. nothing_at IsAddInRange q;
  tombstones = λ q. nothing_at IsWhole q;
  applications = λ q. nothing_at IsApplicationInRange q;
}

pub stays_well_kept : StaysWellKept
stays_well_kept = (empty_is_kept, step_keeps)
