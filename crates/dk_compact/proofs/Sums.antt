-- From every state the sum of commits leads to where the commits lead.
use Rattle.std.proofs.Common.{◌≡◌, ℕ, Bool, true, false, cond, List, [], ◌∷◌, ◌++◌, map, reverse, Option, Some, None, refl, sym, ap, ap₂, ◌∙◌, arith, pos}
use Rattle.std.specs.Prelude.{find, is_some}
use Rattle.std.specs.Option.{option_or, option_to_list}
use Rattle.std.specs.List.{AllByRecursion}
use Rattle.dk_model.specs.declared.action.Action.{Action}
use Rattle.dk_model.specs.declared.action.Action.TheVariants as action
use Rattle.dk_model.specs.declared.state.TableState.{TableState}
use Rattle.dk_model.specs.declared.state.Application.{Application}
use Rattle.dk_model.specs.State.{step, steps, steps_of_all, application_of}
use Rattle.dk_model.specs.Changes.{Change, live, gone, change_at, application_at, domain_at, protocol_in, metadata_in, last_some, EndAlike}
use Rattle.dk_model.proofs.Changes.{last_decides}
use Rattle.dk_lawful.proofs.Words.{none_after}
use Rattle.dk_compact.specs.Settled.{settled}
use Rattle.dk_compact.specs.Keyed.{Keyed, actions_in}
use Rattle.dk_compact.specs.Summary.{sets_protocol, sets_metadata, application_key, domain_key, path_key, all_actions, newest_each, summary_of, SummariesSum}
use Rattle.dk_compact.proofs.LastWords.{first_word, first_of_reverse, if_same, each_speaks, each_has}

-- ---- kinds of actions

abbrev kind : Action → ℕ
kind (action.Protocol p) = 0
kind (action.Metadata m) = 1
kind (action.Txn t) = 2
kind (action.Domain d) = 3
kind (action.Add f) = 4
kind (action.Remove r) = 4
kind a = 5

of_protocol : (a : Action) → sets_protocol a ≡ true → kind a ≡ 0
of_protocol (action.Protocol p) is = refl
of_protocol a is = absurd (let no : false ≡ true = is in cc)

of_metadata : (a : Action) → sets_metadata a ≡ true → kind a ≡ 1
of_metadata (action.Metadata m) is = refl
of_metadata a is = absurd (let no : false ≡ true = is in cc)

of_application : (a : Action) (k : List ℕ) → application_key a ≡ Some k → kind a ≡ 2
of_application (action.Txn t) k is = refl
of_application a k is = absurd (let no : ◌≡◌ {A = Option (List ℕ)} None (Some k) = is in cc)

of_domain : (a : Action) (k : List ℕ) → domain_key a ≡ Some k → kind a ≡ 3
of_domain (action.Domain d) k is = refl
of_domain a k is = absurd (let no : ◌≡◌ {A = Option (List ℕ)} None (Some k) = is in cc)

of_path : (a : Action) (k : List ℕ) → path_key a ≡ Some k → kind a ≡ 4
of_path (action.Add f) k is = refl
of_path (action.Remove r) k is = refl
of_path a k is = absurd (let no : ◌≡◌ {A = Option (List ℕ)} None (Some k) = is in cc)

-- all are of one kind
abbrev AreOfKind : ℕ → List Action → Type 0
AreOfKind n xs = AllByRecursion (λ a. kind a ≡ n) xs

found_of : (test : Action → Bool) (n : ℕ) → ((a : Action) → test a ≡ true → kind a ≡ n) → (xs : List Action) → AreOfKind n (option_to_list (find test xs))
found_of test n of [] = tt
found_of test n of (x ∷ xs) = by (test x) refl (found_of test n of xs)
  where
    by : (b : Bool) → test x ≡ b → AreOfKind n (option_to_list (find test xs)) → AreOfKind n (option_to_list (cond b (Some x) (find test xs)))
    by true is later = (of x is, tt)
    by false is later = later

keyed_of : (key : Action → Option (List ℕ)) (n : ℕ) → ((a : Action) (k : List ℕ) → key a ≡ Some k → kind a ≡ n) → (es : Keyed) → AllByRecursion (λ e. key e.1 ≡ Some e.0) es
    → AreOfKind n (actions_in es)
keyed_of key n of [] have = tt
keyed_of key n of (e ∷ es) have = (of e.1 e.0 have.0, keyed_of key n of es have.1)

-- ---- words

-- the word speaks of one kind alone
abbrev SpeaksOf : {W : Type 0} → (Action → Option W) → ℕ → Type 0
SpeaksOf word n = (a : Action) → (kind a ≡ n → ⊥) → word (settled a) ≡ None

silent : {W : Type 0} (word : Action → Option W) (n m : ℕ) → SpeaksOf word n → (m ≡ n → ⊥) → (xs : List Action) → AreOfKind m xs → last_some word (map settled xs) ≡ None
silent word n m speaks apart [] all = refl
silent word n m speaks apart (x ∷ xs) all =
    ap₂ option_or (silent word n m speaks apart xs all.1) (speaks x (λ is. apart (sym all.0 ∙ is)))

or_thrice : {A : Type 0} (x y z : Option A) → option_or x (option_or y z) ≡ option_or (option_or x y) z
or_thrice None y z = refl
or_thrice (Some x) y z = refl

both : {W : Type 0} (word : Action → Option W) (xs ys : List Action) → last_some word (map settled (xs ++ ys)) ≡ option_or (last_some word (map settled ys)) (last_some word (map settled xs))
both word [] ys = sym (none_after (last_some word (map settled ys)))
both word (x ∷ xs) ys =
    ap (λ o. option_or o (word (settled x))) (both word xs ys) ∙ sym (or_thrice (last_some word (map settled ys)) (last_some word (map settled xs)) (word (settled x)))

heads_speak : {W : Type 0} (word : Action → Option W) (test : Action → Bool) → ((a : Action) → word (settled a) ≡ word a) → ((a : Action) → test a ≡ is_some (word a)) → (newest : List Action)
    → last_some word (map settled (option_to_list (find test newest))) ≡ first_word word newest
heads_speak word test keeps tests [] = refl
heads_speak {W} word test keeps tests (a ∷ rest) =
    ap (λ b. last_some word (map settled (option_to_list (cond b (Some a) (find test rest))))) (tests a) ∙ by (word a) refl (heads_speak word test keeps tests rest)
  where
    by : (o : Option W) → word a ≡ o → last_some word (map settled (option_to_list (find test rest))) ≡ first_word word rest
        → last_some word (map settled (option_to_list (cond (is_some o) (Some a) (find test rest)))) ≡ option_or o (first_word word rest)
    by None is later = later
    by (Some x) is later = keeps a ∙ is

protocol_of : SpeaksOf protocol_in 0
protocol_of (action.Protocol p) apart = absurd (apart refl)
protocol_of a apart = refl

metadata_of : SpeaksOf metadata_in 1
metadata_of (action.Metadata m) apart = absurd (apart refl)
metadata_of a apart = refl

application_of_kind : (q : List ℕ) → SpeaksOf (application_at q) 2
application_of_kind q (action.Txn t) apart = absurd (apart refl)
application_of_kind q a apart = refl

domain_of_kind : (q : List ℕ) → SpeaksOf (domain_at q) 3
domain_of_kind q (action.Domain d) apart = absurd (apart refl)
domain_of_kind q a apart = refl

path_of_kind : (q : List ℕ) → SpeaksOf (change_at q) 4
path_of_kind q (action.Add f) apart = absurd (apart refl)
path_of_kind q (action.Remove r) apart = absurd (apart refl)
path_of_kind q a apart = refl

-- what a word says of an action on its key
abbrev change_said : Action → Change
change_said (action.Add f) = live (record f { data_change = false })
change_said (action.Remove r) = gone r.deletion_timestamp
change_said a = gone (pos 0)

abbrev application_said : Action → Application
application_said (action.Txn t) = application_of t
application_said a = record { version = pos 0; last_updated = None }

abbrev domain_said : Action → Option (List ℕ)
domain_said (action.Domain d) = cond d.removed None (Some d.configuration)
domain_said a = None

keeps_protocol : (a : Action) → protocol_in (settled a) ≡ protocol_in a
keeps_protocol (action.Protocol p) = refl
keeps_protocol a = refl

keeps_metadata : (a : Action) → metadata_in (settled a) ≡ metadata_in a
keeps_metadata (action.Metadata m) = refl
keeps_metadata a = refl

keeps_application : (q : List ℕ) (a : Action) → application_at q (settled a) ≡ application_at q a
keeps_application q (action.Txn t) = refl
keeps_application q a = refl

keeps_domain : (q : List ℕ) (a : Action) → domain_at q (settled a) ≡ domain_at q a
keeps_domain q (action.Domain d) = refl
keeps_domain q a = refl

keeps_change : (q : List ℕ) (a : Action) → change_at q (settled a) ≡ change_at q a
keeps_change q (action.Add f) = refl
keeps_change q (action.Remove r) = refl
keeps_change q a = refl

tests_protocol : (a : Action) → sets_protocol a ≡ is_some (protocol_in a)
tests_protocol (action.Protocol p) = refl
tests_protocol a = refl

tests_metadata : (a : Action) → sets_metadata a ≡ is_some (metadata_in a)
tests_metadata (action.Metadata m) = refl
tests_metadata a = refl

-- ---- the whole

module _ (newest : List Action) where
  abbrev protocols : List Action
  protocols = option_to_list (find sets_protocol newest)

  abbrev metadatas : List Action
  metadatas = option_to_list (find sets_metadata newest)

  abbrev applications : List Action
  applications = actions_in (newest_each application_key newest)

  abbrev domains : List Action
  domains = actions_in (newest_each domain_key newest)

  abbrev paths : List Action
  paths = actions_in (newest_each path_key newest)

  are_protocols : AreOfKind 0 protocols
  are_protocols = found_of sets_protocol 0 of_protocol newest

  are_metadatas : AreOfKind 1 metadatas
  are_metadatas = found_of sets_metadata 1 of_metadata newest

  are_applications : AreOfKind 2 applications
  are_applications = keyed_of application_key 2 of_application (newest_each application_key newest) (each_has application_key newest)

  are_domains : AreOfKind 3 domains
  are_domains = keyed_of domain_key 3 of_domain (newest_each domain_key newest) (each_has domain_key newest)

  are_paths : AreOfKind 4 paths
  are_paths = keyed_of path_key 4 of_path (newest_each path_key newest) (each_has path_key newest)

  module _ {W : Type 0} (word : Action → Option W) where
    abbrev said : List Action → Option W
    said xs = last_some word (map settled xs)

    five : (p m t d f : Option W) → said protocols ≡ p → said metadatas ≡ m → said applications ≡ t → said domains ≡ d → said paths ≡ f
        → said (protocols ++ (metadatas ++ (applications ++ (domains ++ paths)))) ≡ option_or (option_or (option_or (option_or f d) t) m) p
    five p m t d f is_p is_m is_t is_d is_f =
        both word protocols (metadatas ++ (applications ++ (domains ++ paths)))
        ∙ ap₂ option_or (both word metadatas (applications ++ (domains ++ paths))
        ∙ ap₂ option_or (both word applications (domains ++ paths)
        ∙ ap₂ option_or (both word domains paths ∙ ap₂ option_or is_f is_d) is_t) is_m) is_p

    quiet : (n m : ℕ) → SpeaksOf word n → (m ≡ n → ⊥) → (xs : List Action) → AreOfKind m xs → said xs ≡ None
    quiet n m speaks apart xs all = silent word n m speaks apart xs all

  four_none : {A : Type 0} (x : Option A) → option_or (option_or (option_or (option_or x None) None) None) None ≡ x
  four_none None = refl
  four_none (Some x) = refl

  three_none : {A : Type 0} (x : Option A) → option_or (option_or (option_or x None) None) None ≡ x
  three_none None = refl
  three_none (Some x) = refl

  two_none : {A : Type 0} (x : Option A) → option_or (option_or x None) None ≡ x
  two_none None = refl
  two_none (Some x) = refl

  abbrev sum : List Action
  sum = protocols ++ (metadatas ++ (applications ++ (domains ++ paths)))

  protocol_said : last_some protocol_in (map settled sum) ≡ first_word protocol_in newest
  protocol_said =
      five protocol_in (first_word protocol_in newest) None None None None (heads_speak protocol_in sets_protocol keeps_protocol tests_protocol newest)
      (quiet protocol_in 0 1 protocol_of (λ e. omega (arith, e)) metadatas are_metadatas)
      (quiet protocol_in 0 2 protocol_of (λ e. omega (arith, e)) applications are_applications)
      (quiet protocol_in 0 3 protocol_of (λ e. omega (arith, e)) domains are_domains)
      (quiet protocol_in 0 4 protocol_of (λ e. omega (arith, e)) paths are_paths)

  metadata_said : last_some metadata_in (map settled sum) ≡ first_word metadata_in newest
  metadata_said =
      five metadata_in None (first_word metadata_in newest) None None None
      (quiet metadata_in 1 0 metadata_of (λ e. omega (arith, e)) protocols are_protocols)
      (heads_speak metadata_in sets_metadata keeps_metadata tests_metadata newest)
      (quiet metadata_in 1 2 metadata_of (λ e. omega (arith, e)) applications are_applications)
      (quiet metadata_in 1 3 metadata_of (λ e. omega (arith, e)) domains are_domains)
      (quiet metadata_in 1 4 metadata_of (λ e. omega (arith, e)) paths are_paths)
      ∙ none_after (first_word metadata_in newest)

  application_of_all : (q : List ℕ) → last_some (application_at q) (map settled sum) ≡ first_word (application_at q) newest
  application_of_all q =
      five (application_at q) None None (first_word (application_at q) newest) None None
      (quiet (application_at q) 2 0 (application_of_kind q) (λ e. omega (arith, e)) protocols are_protocols)
      (quiet (application_at q) 2 1 (application_of_kind q) (λ e. omega (arith, e)) metadatas are_metadatas)
      (each_speaks (application_at q) application_key q application_said speaks (keeps_application q) newest)
      (quiet (application_at q) 2 3 (application_of_kind q) (λ e. omega (arith, e)) domains are_domains)
      (quiet (application_at q) 2 4 (application_of_kind q) (λ e. omega (arith, e)) paths are_paths)
      ∙ two_none (first_word (application_at q) newest)
    where
      speaks : (a : Action) → application_at q a ≡ if_same (application_at q) application_key q application_said a (application_key a)
      speaks (action.Txn t) = refl
      speaks a = refl

  domain_of_all : (q : List ℕ) → last_some (domain_at q) (map settled sum) ≡ first_word (domain_at q) newest
  domain_of_all q =
      five (domain_at q) None None None (first_word (domain_at q) newest) None
      (quiet (domain_at q) 3 0 (domain_of_kind q) (λ e. omega (arith, e)) protocols are_protocols)
      (quiet (domain_at q) 3 1 (domain_of_kind q) (λ e. omega (arith, e)) metadatas are_metadatas)
      (quiet (domain_at q) 3 2 (domain_of_kind q) (λ e. omega (arith, e)) applications are_applications)
      (each_speaks (domain_at q) domain_key q domain_said speaks (keeps_domain q) newest)
      (quiet (domain_at q) 3 4 (domain_of_kind q) (λ e. omega (arith, e)) paths are_paths)
      ∙ three_none (first_word (domain_at q) newest)
    where
      speaks : (a : Action) → domain_at q a ≡ if_same (domain_at q) domain_key q domain_said a (domain_key a)
      speaks (action.Domain d) = refl
      speaks a = refl

  path_of_all : (q : List ℕ) → last_some (change_at q) (map settled sum) ≡ first_word (change_at q) newest
  path_of_all q =
      five (change_at q) None None None None (first_word (change_at q) newest)
      (quiet (change_at q) 4 0 (path_of_kind q) (λ e. omega (arith, e)) protocols are_protocols)
      (quiet (change_at q) 4 1 (path_of_kind q) (λ e. omega (arith, e)) metadatas are_metadatas)
      (quiet (change_at q) 4 2 (path_of_kind q) (λ e. omega (arith, e)) applications are_applications)
      (quiet (change_at q) 4 3 (path_of_kind q) (λ e. omega (arith, e)) domains are_domains)
      (each_speaks (change_at q) path_key q change_said speaks (keeps_change q) newest)
      ∙ four_none (first_word (change_at q) newest)
    where
      speaks : (a : Action) → change_at q a ≡ if_same (change_at q) path_key q change_said a (path_key a)
      speaks (action.Add f) = refl
      speaks (action.Remove r) = refl
      speaks a = refl

ends_alike : (commits : List (List Action)) → EndAlike (summary_of commits) (all_actions commits)
ends_alike commits = record {
  protocol = protocol_said (reverse (all_actions commits)) ∙ first_of_reverse protocol_in (all_actions commits);
  metadata = metadata_said (reverse (all_actions commits)) ∙ first_of_reverse metadata_in (all_actions commits);
  paths = λ q. path_of_all (reverse (all_actions commits)) q ∙ first_of_reverse (change_at q) (all_actions commits);
  applications = λ q. application_of_all (reverse (all_actions commits)) q ∙ first_of_reverse (application_at q) (all_actions commits);
  domains = λ q. domain_of_all (reverse (all_actions commits)) q ∙ first_of_reverse (domain_at q) (all_actions commits);
}

steps_both : (xs : List Action) (s : TableState) (ys : List Action) → steps s (xs ++ ys) ≡ steps (steps s xs) ys
steps_both [] s ys = refl
steps_both (x ∷ xs) s ys = steps_both xs (step s x) ys

steps_all : (commits : List (List Action)) (s : TableState) → steps s (all_actions commits) ≡ steps_of_all s commits
steps_all [] s = refl
steps_all (c ∷ cs) s = steps_both c s (all_actions cs) ∙ steps_all cs (steps s c)

pub summaries_sum : SummariesSum
summaries_sum commits s = last_decides (summary_of commits) (all_actions commits) (ends_alike commits) s ∙ steps_all commits s
