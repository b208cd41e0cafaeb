-- A feature that is in force stays so, as each protocol of a commit that keeps the rules has those in force before; so does management by a catalogue.
use Rattle.std.proofs.Common.{◌≡◌, ℕ, ℤ, Bool, true, false, not, List, [], ◌∷◌, Option, Some, None, if◌then◌else◌, refl, sym, true≢false, filter_map}
use Rattle.std.specs.List.{list_all}
use Rattle.std.proofs.lemmas.Bool.{and_parts}
use Rattle.dk_model.specs.declared.action.Action.{Action}
use Rattle.dk_model.specs.declared.action.Action.TheVariants as action
use Rattle.dk_model.specs.declared.action.Protocol.{Protocol}
use Rattle.dk_model.specs.declared.state.TableState.{TableState}
use Rattle.dk_model.specs.State.{step, steps}
use Rattle.dk_features.specs.Names.{catalog_managed}
use Rattle.dk_features.specs.InForce.{has_feature}
use Rattle.dk_features.specs.Forms.{has_form, keeps_features}
use Rattle.dk_features.proofs.StayInForce.{stays}
use Rattle.dk_model.specs.Changes.{protocol_in}
use Rattle.dk_lawful.specs.Rules.{is_not_lower, may_follow, is_protocol_kept, keeps_heads, keeps_kinds, keeps_paths_apart, keeps_names_apart, keeps_protocol, keeps_writer, KeepsRules}
use Rattle.dk_lawful.specs.Laws.{FeaturesStay, ManagementStays}

-- the tests in a row that no rule broken passes
passed : (kept : Bool) (rule : ℕ) (rest : Option ℕ) → (if not kept then Some rule else rest) ≡ None → (kept ≡ true) × (rest ≡ None)
passed true rule rest none = (refl, none)
passed false rule rest none = absurd (let no : ◌≡◌ {A = Option ℕ} (Some rule) None = none in cc)

pub record Kept (before : TableState) (version : ℕ) (actions : List Action) : Type 0 where
  pub heads : keeps_heads version actions ≡ true
  pub protocol : keeps_protocol before actions ≡ true
  pub writer : keeps_writer before actions ≡ true

pub kept : (before : TableState) (last : Option ℤ) (version : ℕ) (actions : List Action) → KeepsRules before last version actions → Kept before version actions
kept before last version actions valid =
    let one = passed (keeps_heads version actions) 1 _ valid in
    let two = passed (keeps_kinds actions) 2 _ one.1 in
    let three = passed (keeps_paths_apart actions) 3 _ two.1 in
    let four = passed (keeps_names_apart actions) 4 _ three.1 in
    let five = passed (keeps_protocol before actions) 5 _ four.1 in
    let six = passed (keeps_writer before actions) 6 _ five.1 in
    record { heads = one.0; protocol = five.0; writer = six.0 }

-- the features of the protocol before are in force after one that keeps rule 5
feature_kept : (before : Option Protocol) (p : Protocol) (name : List ℕ) → is_protocol_kept before p ≡ true → has_feature before name ≡ true → has_feature (Some p) name ≡ true
unfolding has_feature
feature_kept None p name keeps now = absurd (true≢false (sym now))
feature_kept (Some b) p name keeps now =
    let both = and_parts (has_form p) (may_follow (Some b) p) keeps in
    stays b p name ((and_parts (is_not_lower b p) (keeps_features b p) both.1).1) now

feature_after : (before : Option Protocol) (name : List ℕ) → has_feature before name ≡ true → (s : TableState) (actions : List Action)
    → list_all (is_protocol_kept before) (filter_map protocol_in actions) ≡ true → has_feature s.protocol name ≡ true → has_feature (steps s actions).protocol name ≡ true
feature_after before name first s [] keeps now = now
feature_after before name first s (action.Protocol p ∷ rest) keeps now =
    let both = and_parts (is_protocol_kept before p) _ keeps in
    feature_after before name first (step s (action.Protocol p)) rest both.1 (feature_kept before p name both.0 first)
feature_after before name first s (a ∷ rest) keeps now = feature_after before name first (step s a) rest keeps now

pub features_stay : FeaturesStay
features_stay before last version actions name valid now = feature_after before.protocol name now before actions ((kept before last version actions valid).protocol) now

pub management_stays : ManagementStays
management_stays before last version actions valid managed = features_stay before last version actions catalog_managed valid managed
