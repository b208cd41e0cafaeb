-- The text of a state, put together from those of its parts.
use Rattle.std.proofs.Common.{◌≡◌, ℕ, ℤ, List, ◌++◌, Bool, map, ap, ◌∙◌}
use Rattle.std.proofs.lemmas.Grind.{flat_map-append}
use Rattle.std.specs.Option.{option_to_list}
use Rattle.std.specs.FinMap.{entries}
use Rattle.dk_model.specs.declared.action.AddFile.{AddFile}
use Rattle.dk_model.specs.declared.action.Action.{Action}
use Rattle.dk_model.specs.declared.action.Action.TheVariants as action
use Rattle.dk_model.specs.declared.state.TableState.{TableState}
use Rattle.dk_model.specs.Contents.{recorded, configured, heads, adds, removals, named_actions, canonical_with}
use Rattle.dk_model.specs.Written.{written_line, text_of}

pub text_of-append : (front rest : List Action) → text_of (front ++ rest) ≡ text_of front ++ text_of rest
text_of-append front rest = flat_map-append written_line front rest

pub heads_text : (state : TableState)
    → text_of (heads state) ≡ text_of (map (λ p. action.Protocol p) (option_to_list state.protocol)) ++ text_of (map (λ m. action.Metadata m) (option_to_list state.metadata))
heads_text state = text_of-append (map (λ p. action.Protocol p) (option_to_list state.protocol)) (map (λ m. action.Metadata m) (option_to_list state.metadata))

pub named_text : (state : TableState) → text_of (named_actions state) ≡ text_of (map recorded (entries state.applications)) ++ text_of (map configured (entries state.domains))
named_text state = text_of-append (map recorded (entries state.applications)) (map configured (entries state.domains))

pub canonical_text : (state : TableState) (keeps : List ℕ × ℤ → Bool) (files : List (List ℕ × AddFile))
    → text_of (canonical_with state keeps files) ≡ text_of (heads state) ++ (text_of (adds files) ++ (text_of (removals state keeps) ++ text_of (named_actions state)))
canonical_text state keeps files =
    text_of-append (heads state) (adds files ++ (removals state keeps ++ named_actions state))
    ∙ ap (λ (t : List ℕ). text_of (heads state) ++ t)
    (text_of-append (adds files) (removals state keeps ++ named_actions state) ∙ ap (λ (t : List ℕ). text_of (adds files) ++ t) (text_of-append (removals state keeps) (named_actions state)))
