-- The greatest version of the complete checkpoints is that of their names.
use Rattle.std.proofs.Common.{◌≡◌, ℕ, Bool, true, false, cond, List, [], ◌∷◌, map, Option, Some, None, if◌then◌else◌, refl, sym, ap, ◌∙◌}
use Rattle.std.specs.Prelude.{is_some, ◌==◌, ◌&&◌}
use Rattle.std.specs.List.{filter, fold}
use Rattle.dk_paths.specs.declared.log_name.LogName.{LogName}
use Rattle.dk_paths.specs.declared.log_name.LogName.TheVariants.{Commit, Classic, Part, V2Json, V2Parquet, Compacted, Hint, Other}
use Rattle.dk_listing.specs.declared.named.Named.{Named}
use Rattle.dk_listing.specs.Newest.{later, newest_by, all_up_to, lists_part, complete_version, complete_names, complete_checkpoints, checkpoint_version, newest_checkpoint}

begun : (has : ℕ → ℕ → ℕ → Bool) (name : LogName) (version : ℕ) → complete_version has name ≡ Some version → checkpoint_version name ≡ Some version
begun has (Classic v) version is = is
begun has (V2Json v id) version is = is
begun has (V2Parquet v id) version is = is
begun has (Part v part parts) version is = by (part == 1 && all_up_to (has v parts) parts) is
  where
    by : (all : Bool) → (if all then Some v else None) ≡ Some version → Some v ≡ Some version
    by true same = same
    by false none = absurd (let no : ◌≡◌ {A = Option ℕ} None (Some version) = none in cc)
begun has (Commit v) version is = absurd (let no : ◌≡◌ {A = Option ℕ} None (Some version) = is in cc)
begun has (Compacted first last) version is = absurd (let no : ◌≡◌ {A = Option ℕ} None (Some version) = is in cc)
begun has Hint version is = absurd (let no : ◌≡◌ {A = Option ℕ} None (Some version) = is in cc)
begun has Other version is = absurd (let no : ◌≡◌ {A = Option ℕ} None (Some version) = is in cc)

later_none : (best : Option ℕ) → later best None ≡ best
later_none None = refl
later_none (Some version) = refl

module _ (has : ℕ → ℕ → ℕ → Bool) where
  abbrev by_name : Option ℕ → LogName → Option ℕ
  by_name best name = later best (checkpoint_version name)

  abbrev by_complete : Option ℕ → Named → Option ℕ
  by_complete best named = later best (complete_version has named.name)

  fold_complete : (best : Option ℕ) (log : List Named) → fold by_name best (complete_names has log) ≡ fold by_complete best log
  fold_complete best [] = refl
  fold_complete best (named ∷ log) = by (complete_version has named.name) refl (λ b. fold_complete b log)
    where
      rest : List Named
      rest = filter (λ (n : Named). is_some (complete_version has n.name)) log

      by : (found : Option ℕ) → complete_version has named.name ≡ found → ((b : Option ℕ) → fold by_name b (complete_names has log) ≡ fold by_complete b log)
          → fold by_name best (map (λ (n : Named). n.name) (if is_some found then named ∷ rest else rest)) ≡ fold by_complete (later best found) log
      by None is later_names = later_names best ∙ ap (λ (b : Option ℕ). fold by_complete b log) (sym (later_none best))
      by (Some version) is later_names =
          later_names (later best (checkpoint_version named.name))
          ∙ ap (λ (found : Option ℕ). fold by_complete (later best found) log) (begun has named.name version is)

pub newest_complete : (log : List Named) → newest_by checkpoint_version (complete_checkpoints log) ≡ newest_checkpoint log
newest_complete log = fold_complete (lists_part log) None log
