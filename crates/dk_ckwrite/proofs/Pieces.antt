-- The actions of a checkpoint from their pieces.
use Rattle.std.proofs.Common.{◌≡◌, ℕ, ℤ, List, [], ◌∷◌, ◌++◌, ap, subst, ◌∙◌, append_assoc, if◌then◌else◌}
use Rattle.std.specs.FinMap.{entries}
use Rattle.dk_model.specs.declared.action.Action.{Action}
use Rattle.dk_model.specs.declared.state.TableState.{TableState}
use Rattle.dk_model.specs.Contents.{heads, adds, removals, named_actions, is_later}
use Rattle.dk_features.specs.InForce.{has_feature}
use Rattle.dk_features.specs.Names.{v2_checkpoint}
use Rattle.dk_lawful.specs.Contents.{classic_content, mark}

-- five pieces, one behind the other
five : (start one two three four all first second third fourth fifth : List Action) → start ≡ [] → one ≡ start ++ first → two ≡ one ++ second → three ≡ two ++ third → four ≡ three ++ fourth
    → all ≡ four ++ fifth → all ≡ first ++ (second ++ (third ++ (fourth ++ fifth)))
five start one two three four all first second third fourth fifth empty a b c d e =
    e
    ∙ ap (λ (x : List Action). x ++ fifth) (d ∙ ap (λ (x : List Action). x ++ fourth) (c ∙ ap (λ (x : List Action). x ++ third) (b ∙ ap (λ (x : List Action). x ++ second) (a ∙ ap (λ (x : List Action). x ++ first) empty))))
    ∙ append_assoc ((first ++ second) ++ third) fourth fifth
    ∙ append_assoc (first ++ second) third (fourth ++ fifth)
    ∙ append_assoc first second (third ++ (fourth ++ fifth))

-- the mark, the heads, the files, the tombstones, and what has a name
pub whole : (state : TableState) (version : ℕ) (cut passed : ℤ) (start one two three four all : List Action) → passed ≡ cut → start ≡ []
    → one ≡ start ++ (if has_feature state.protocol v2_checkpoint then mark version ∷ [] else []) → two ≡ one ++ heads state → three ≡ two ++ adds (entries state.files)
    → four ≡ three ++ removals state (is_later passed) → all ≡ four ++ named_actions state → all ≡ classic_content state version cut
whole state version cut passed start one two three four all same empty a b c d e =
    subst (λ (z : ℤ). all ≡ classic_content state version z) same
    (five start one two three four all (if has_feature state.protocol v2_checkpoint then mark version ∷ [] else []) (heads state) (adds (entries state.files)) (removals state (is_later passed)) (named_actions state)
    empty a b c d e)
