-- Taken one after the other, the actions on each key are the newest.
use Rattle.std.proofs.Common.{◌≡◌, List, [], ◌∷◌, ◌++◌, reverse, refl, sym, ap, ◌∙◌, append_assoc, append-nil}
use Rattle.std.specs.Prelude.{find}
use Rattle.std.proofs.lemmas.List.{reverse-append}
use Rattle.dk_model.specs.declared.action.Action.{Action}
use Rattle.dk_model.specs.declared.action.Action.TheVariants as action
use Rattle.dk_compact.specs.declared.newest.Newest.{Newest}
use Rattle.dk_compact.specs.Summary.{sets_protocol, sets_metadata, application_key, domain_key, path_key, all_actions, newest_each}
use Rattle.dk_compact.specs.Taken.{newest_with, taken_all, taken_each, taken_commits}

-- the newest on each key, of actions that stand newest first
abbrev newest_of : List Action → Newest
newest_of back = record {
  protocol = find sets_protocol back;
  metadata = find sets_metadata back;
  applications = newest_each application_key back;
  domains = newest_each domain_key back;
  paths = newest_each path_key back;
}

one_taken : (back : List Action) (a : Action) → newest_with (newest_of back) a ≡ newest_of (a ∷ back)
one_taken back (action.Protocol p) = refl
one_taken back (action.Metadata m) = refl
one_taken back (action.Add f) = refl
one_taken back (action.Remove r) = refl
one_taken back (action.Txn t) = refl
one_taken back (action.Domain d) = refl
one_taken back (action.Info i) = refl
one_taken back action.Cdc = refl
one_taken back (action.CheckpointMeta m) = refl
one_taken back (action.Sidecar s) = refl

all_taken : (actions back : List Action) → taken_all (newest_of back) actions ≡ newest_of (reverse actions ++ back)
all_taken [] back = refl
all_taken (a ∷ rest) back =
    ap (λ n. taken_all n rest) (one_taken back a) ∙ all_taken rest (a ∷ back)
    ∙ ap newest_of (sym (ap (λ l. l ++ back) (reverse-append (a ∷ []) rest) ∙ append_assoc (reverse rest) (a ∷ []) back))

each_taken : (commits : List (List Action)) (back : List Action) → taken_each (newest_of back) commits ≡ newest_of (reverse (all_actions commits) ++ back)
each_taken [] back = refl
each_taken (c ∷ cs) back =
    ap (λ n. taken_each n cs) (all_taken c back) ∙ each_taken cs (reverse c ++ back)
    ∙ ap newest_of (sym (ap (λ l. l ++ back) (reverse-append c (all_actions cs)) ∙ append_assoc (reverse (all_actions cs)) (reverse c) back))

pub commits_taken : (commits : List (List Action)) → taken_commits commits ≡ newest_of (reverse (all_actions commits))
commits_taken commits = each_taken commits [] ∙ ap newest_of (append-nil (reverse (all_actions commits)))
