-- Commits that break a rule may not come.
use Rattle.std.proofs.Common.{◌≡◌, ℤ, pos, [], ◌∷◌, ◌++◌, Some, refl, arith}
use Rattle.dk_model.specs.CommitText.{commit_of}
use Rattle.dk_model.specs.DomainObject.{domain_of}
use Rattle.dk_model.specs.InfoObject.{info_of}
use Rattle.dk_model.specs.CheckpointObjects.{sidecar_of}
use Rattle.dk_model.specs.TxnObject.{txn_of}
use Rattle.dk_store.specs.Told.{Made}
use Rattle.dk_paths.specs.Names.{commit_path}
use Rattle.dk_lawful.specs.History.{by_file, history}
use Rattle.dk_lawful.specs.Permits.{AddsCommit}
use Rattle.dk_lawful.specs.Lawful.{Lawful}
use Rattle.dk_lawful.specs.Example.{example, IsForbidden}
use Rattle.dk_lawful.specs.BrokenRules.{informing_text, informing_actions, sidecar_text, sidecar_actions, applying_text, applying_actions, settling_text, settling_actions, appending_text, appending_actions, removing_text, removing_actions, appending_log, vector_text, vector_actions, untimed_text, untimed_actions}
use Rattle.dk_lawful.proofs.OnTexts.{commits_on_literals, rules_on_literals}
use Rattle.dk_lawful.proofs.Example.{adds, permitted, may_add, broken, breaks, history_one}

-- ---- what the texts mean

informed_means : commit_of (informing_text ++ informing_text) ≡ Some (informing_actions ++ informing_actions)
unfolding commits_on_literals info_of informing_text
informed_means = refl

sidecar_means : commit_of sidecar_text ≡ Some sidecar_actions
unfolding commits_on_literals sidecar_of sidecar_text
sidecar_means = refl

applied_means : commit_of (applying_text ++ applying_text) ≡ Some (applying_actions ++ applying_actions)
unfolding commits_on_literals txn_of applying_text
applied_means = refl

settled_means : commit_of (settling_text ++ settling_text) ≡ Some (settling_actions ++ settling_actions)
unfolding commits_on_literals domain_of settling_text
settled_means = refl

settling_means : commit_of settling_text ≡ Some settling_actions
unfolding commits_on_literals domain_of settling_text
settling_means = refl

removing_means : commit_of removing_text ≡ Some removing_actions
unfolding commits_on_literals removing_text
removing_means = refl

appending_means : commit_of appending_text ≡ Some appending_actions
unfolding commits_on_literals appending_text
appending_means = refl

-- ---- after the example

pub informed_twice : IsForbidden example (Made (commit_path 2) (informing_text ++ informing_text) (pos 2))
unfolding rules_on_literals
informed_twice = breaks 2 (informing_text ++ informing_text) (informing_actions ++ informing_actions) refl informed_means

pub sidecar_named : IsForbidden example (Made (commit_path 2) sidecar_text (pos 2))
unfolding rules_on_literals
sidecar_named = breaks 2 sidecar_text sidecar_actions refl sidecar_means

pub application_twice : IsForbidden example (Made (commit_path 2) (applying_text ++ applying_text) (pos 2))
unfolding rules_on_literals
application_twice = breaks 4 (applying_text ++ applying_text) (applying_actions ++ applying_actions) refl applied_means

pub domain_twice : IsForbidden example (Made (commit_path 2) (settling_text ++ settling_text) (pos 2))
unfolding rules_on_literals
domain_twice = breaks 4 (settling_text ++ settling_text) (settling_actions ++ settling_actions) refl settled_means

pub domain_early : IsForbidden example (Made (commit_path 2) settling_text (pos 2))
unfolding rules_on_literals
domain_early = breaks 8 settling_text settling_actions refl settling_means

-- ---- where rows are only added

appended_adds : AddsCommit [] 0 appending_text
unfolding rules_on_literals commits_on_literals
appended_adds = adds [] [] 0 appending_text appending_actions refl refl refl refl appending_means

pub appended_is_lawful : (horizon : ℤ) → Lawful appending_log horizon
appended_is_lawful horizon = (permitted [] horizon 0 appending_text (pos 0) (omega arith) tt appended_adds, tt)

appended_history : history appending_log ≡ by_file appending_actions ∷ []
appended_history = history_one appending_text appending_actions appending_means

pub rows_removed : IsForbidden appending_log (Made (commit_path 1) removing_text (pos 1))
unfolding rules_on_literals commits_on_literals
rows_removed horizon may =
    broken appending_log (by_file appending_actions ∷ []) 1 7 removing_text removing_actions appended_history refl removing_means
    (may_add appending_log horizon 1 removing_text (pos 1) (omega arith) refl may)

-- ---- rules on deletion vectors and on managed tables

vector_means : commit_of vector_text ≡ Some vector_actions
unfolding commits_on_literals vector_text
vector_means = refl

pub vector_added : IsForbidden example (Made (commit_path 2) vector_text (pos 2))
unfolding rules_on_literals
vector_added = breaks 11 vector_text vector_actions refl vector_means

untimed_means : commit_of untimed_text ≡ Some untimed_actions
unfolding commits_on_literals untimed_text
untimed_means = refl

pub untimed : IsForbidden [] (Made (commit_path 0) untimed_text (pos 0))
unfolding rules_on_literals
untimed horizon may =
    broken [] [] 0 10 untimed_text untimed_actions refl refl untimed_means (may_add [] horizon 0 untimed_text (pos 0) (omega arith) refl may)
