-- A log is the whole one of one list of commits alone.
use Rattle.std.proofs.Common.{◌≡◌, ℕ, ◌<◌, inl, inr, length, List, Option, Some, None, option_and_then, slice_get, sym, ap, ◌∙◌, arith}
use Rattle.std.proofs.lemmas.Bool.{cases_lt}
use Rattle.std.proofs.lemmas.Option.{slice_get_past}
use Rattle.dk_model.specs.declared.action.Action.{Action}
use Rattle.dk_model.specs.CommitText.{commit_of}
use Rattle.dk_store.specs.Told.{Told}
use Rattle.dk_store.specs.Objects.{content}
use Rattle.dk_paths.specs.Names.{commit_path}
use Rattle.dk_lawful.specs.Laws.{IsWholeLog, WholeLogIsOne}
use Rattle.dk_lawful.proofs.Lists.{same_elements, slice_get-within}

-- an element of one is an element of the other
each_stands : (events : List Told) (log other : List (List Action)) → IsWholeLog events log → IsWholeLog events other → (version : ℕ) → version < length log
    → slice_get log version ≡ slice_get other version
each_stands events log other is is_other version below =
    let here : option_and_then commit_of (content events (commit_path version)) ≡ slice_get log version = is.each version below in
    elim (cases_lt version (length other)) [
      | inl less ↦ sym here ∙ is_other.each version less
      | inr at_least ↦
          let none : content events (commit_path version) ≡ None = is_other.last version at_least (let small = is.small in omega arith) in
          let some = slice_get-within log version below in
          absurd (let no : ◌≡◌ {A = Option (List Action)} None (Some some.0) = ap (option_and_then commit_of) (sym none) ∙ here ∙ some.1 in cc)
    ]

pub whole_log_is_one : WholeLogIsOne
whole_log_is_one events log other is is_other = same_elements log other at
  where
    at : (version : ℕ) → slice_get log version ≡ slice_get other version
    at version = elim (cases_lt version (length log)) [
      | inl less ↦ each_stands events log other is is_other version less
      | inr past ↦ elim (cases_lt version (length other)) [
        | inl less ↦ sym (each_stands events other log is_other is version less)
        | inr past_other ↦ slice_get_past log version past ∙ sym (slice_get_past other version past_other)
      ]
    ]
