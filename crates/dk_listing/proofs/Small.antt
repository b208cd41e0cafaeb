-- The greatest of small versions is small.
use Rattle.std.proofs.Common.{ℕ, ◌<◌, Bool, true, false, List, [], ◌∷◌, arith, cond}
use Rattle.std.specs.Prelude.{Option, Some, None, All, IfSome, ◌==◌, ◌&&◌}
use Rattle.std.specs.List.{AllByRecursion, fold}
use Rattle.std.proofs.lemmas.List.Elements.{recursion_from_All, All-weaker}
use Rattle.dk_store.specs.declared.event.Ratification.{Ratification}
use Rattle.dk_paths.specs.declared.log_name.LogName.{LogName}
use Rattle.dk_paths.specs.declared.log_name.LogName.TheVariants.{Commit, Classic, Part, V2Json, V2Parquet, Compacted, Hint, Other}
use Rattle.dk_listing.specs.declared.named.Named.{Named}
use Rattle.dk_listing.specs.Newest.{later, newest_by, commit_version, newest_commit, newest_ratified, complete_version, lists_part, newest_checkpoint, version_named, all_up_to}

-- a version, if there is one, is below the limit
abbrev IsBelow : ℕ → Option ℕ → Type 0
IsBelow limit version = IfSome version (λ v. v < limit)

pub later_small : (limit : ℕ) (one other : Option ℕ) → IfSome one (λ v. v < limit) → IfSome other (λ v. v < limit) → IfSome (later one other) (λ v. v < limit)
later_small limit None other first second = second
later_small limit (Some one) None first second = first
later_small limit (Some one) (Some other) first second = omega (arith, first, second)

fold_small : {X : Type 0} (version : X → Option ℕ) (limit : ℕ) (best : Option ℕ) (xs : List X) → IsBelow limit best → AllByRecursion (λ x. IsBelow limit (version x)) xs
    → IsBelow limit (fold (λ best x. later best (version x)) best xs)
fold_small version limit best [] small all = small
fold_small version limit best (x ∷ xs) small all = fold_small version limit (later best (version x)) xs (later_small limit best (version x) small all.0) all.1

newest_small : {X : Type 0} (version : X → Option ℕ) (limit : ℕ) (xs : List X) → All (λ x. IsBelow limit (version x)) xs → IsBelow limit (newest_by version xs)
newest_small version limit xs all = fold_small version limit None xs tt (recursion_from_All (λ x. IsBelow limit (version x)) xs all)

commit_small : (limit : ℕ) (name : LogName) → version_named name < limit → IsBelow limit (commit_version name)
commit_small limit (Commit v) small = small
commit_small limit (Classic v) small = tt
commit_small limit (Part v part parts) small = tt
commit_small limit (V2Json v id) small = tt
commit_small limit (V2Parquet v id) small = tt
commit_small limit (Compacted first last) small = tt
commit_small limit Hint small = tt
commit_small limit Other small = tt

complete_small : (has : ℕ → ℕ → ℕ → Bool) (limit : ℕ) (name : LogName) → version_named name < limit → IsBelow limit (complete_version has name)
complete_small has limit (Commit v) small = tt
complete_small has limit (Classic v) small = small
complete_small has limit (Part v part parts) small = by (part == 1 && all_up_to (has v parts) parts)
  where
    by : (all : Bool) → IsBelow limit (cond all (Some v) None)
    by true = small
    by false = tt
complete_small has limit (V2Json v id) small = small
complete_small has limit (V2Parquet v id) small = small
complete_small has limit (Compacted first last) small = tt
complete_small has limit Hint small = tt
complete_small has limit Other small = tt

pub newest_commit-small : (limit : ℕ) (log : List Named) → All (λ named. version_named named.name < limit) log → IfSome (newest_commit log) (λ v. v < limit)
newest_commit-small limit log all =
    newest_small (λ named. commit_version named.name) limit log (All-weaker (λ named. version_named named.name < limit) (λ named. IsBelow limit (commit_version named.name)) (λ named small. commit_small limit named.name small) log all)

pub newest_checkpoint-small : (limit : ℕ) (log : List Named) → All (λ named. version_named named.name < limit) log → IfSome (newest_checkpoint log) (λ v. v < limit)
newest_checkpoint-small limit log all =
    newest_small (λ named. complete_version (lists_part log) named.name) limit log
    (All-weaker (λ named. version_named named.name < limit) (λ named. IsBelow limit (complete_version (lists_part log) named.name)) (λ named small. complete_small (lists_part log) limit named.name small) log all)

pub newest_ratified-small : (limit : ℕ) (ratified : List Ratification) → All (λ r. r.version < limit) ratified → IfSome (newest_ratified ratified) (λ v. v < limit)
newest_ratified-small limit ratified all = newest_small (λ r. Some r.version) limit ratified all
