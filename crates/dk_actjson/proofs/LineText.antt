-- The text of a line, from the tokens that were written.
use Rattle.std.proofs.Common.{◌≡◌, ℕ, List, [], ◌∷◌, ◌++◌, Some, IsUtf8, refl, ap, subst, ◌∙◌, append_assoc}
use Rattle.std.proofs.lemmas.Str.{IsUtf8-append}
use Rattle.json.proofs.Printed.Utf8.{IsUtf8-are_ascii}
use Rattle.json.specs.Print.{print}
use Rattle.json.specs.Token.{begin_object, end_object}
use Rattle.json.specs.Written.{Written}
use Rattle.serde_json.specs.Data.{Data}
use Rattle.serde_json.specs.Written.{compact_text}
use Rattle.serde_json.proofs.Texts.{print-outline}
use Rattle.dk_model.specs.declared.action.Action.{Action}
use Rattle.dk_model.specs.Shown.{object_with}
use Rattle.dk_model.specs.ActionObject.{key_name, inner_object}
use Rattle.dk_model.specs.Written.{line_of}
use Rattle.dk_actjson.specs.Tokens.{HasTokens, tokens_of, after_field}
use Rattle.dk_actjson.proofs.Tokens.{closed_object}
use Rattle.dk_actjson.proofs.Rising.{one_rises}

line_text : (out : List ℕ) (d : Data) (w0 w : Written) (items : List ℕ) → w0.before ≡ out → w0.tokens ≡ [] → HasTokens w0 (w0.tokens ++ tokens_of d) w
    → items ≡ (w.before ++ print w.tokens) ++ 10 ∷ [] → items ≡ out ++ (compact_text d ++ 10 ∷ [])
line_text out d w0 w items before none has is =
    is ∙ ap (λ s. (s ++ print w.tokens) ++ 10 ∷ []) (has.0 ∙ before)
    ∙ ap (λ ts. (out ++ print ts) ++ 10 ∷ []) (has.1 ∙ ap (λ ts. ts ++ tokens_of d) none)
    ∙ ap (λ s. (out ++ s) ++ 10 ∷ []) (print-outline d)
    ∙ append_assoc out (compact_text d) (10 ∷ [])

-- an object with one member becomes a line
pub object_line : (out k : List ℕ) (d : Data) (w0 w1 w2 w3 : Written) (items : List ℕ) → w0.before ≡ out → w0.tokens ≡ []
    → HasTokens w0 (w0.tokens ++ begin_object ∷ []) w1 → HasTokens w1 (after_field w1.tokens k (Some d)) w2
    → HasTokens w2 (w2.tokens ++ end_object ∷ []) w3 → items ≡ (w3.before ++ print w3.tokens) ++ 10 ∷ [] → items ≡ out ++ (compact_text (object_with ((k, Some d) ∷ [])) ++ 10 ∷ [])
object_line out k d w0 w1 w2 w3 items before none opens member closes is =
    line_text out _ w0 w3 items before none (closed_object w0 w1 w2 w3 _ (one_rises k (Some d)) opens member closes) is

-- and that of an action its line
pub action_line : (out : List ℕ) (a : Action) (w0 w1 w2 w3 : Written) (items : List ℕ) → w0.before ≡ out → w0.tokens ≡ []
    → HasTokens w0 (w0.tokens ++ begin_object ∷ []) w1 → HasTokens w1 (after_field w1.tokens (key_name a) (Some (inner_object a))) w2
    → HasTokens w2 (w2.tokens ++ end_object ∷ []) w3 → items ≡ (w3.before ++ print w3.tokens) ++ 10 ∷ [] → items ≡ out ++ line_of a
action_line out a w0 w1 w2 w3 items before none opens member closes is = object_line out (key_name a) (inner_object a) w0 w1 w2 w3 items before none opens member closes is

-- and what was printed is UTF-8
pub object_utf8 : (k : List ℕ) (d : Data) (w0 w1 w2 w3 : Written) → w0.tokens ≡ [] → HasTokens w0 (w0.tokens ++ begin_object ∷ []) w1 → HasTokens w1 (after_field w1.tokens k (Some d)) w2
    → HasTokens w2 (w2.tokens ++ end_object ∷ []) w3 → IsUtf8 (print w3.tokens) → IsUtf8 (compact_text (object_with ((k, Some d) ∷ [])) ++ 10 ∷ [])
object_utf8 k d w0 w1 w2 w3 none opens member closes utf8 =
    let object = object_with ((k, Some d) ∷ []) in
    let has = closed_object w0 w1 w2 w3 _ (one_rises k (Some d)) opens member closes in
    let tokens : w3.tokens ≡ tokens_of object = has.1 ∙ ap (λ ts. ts ++ tokens_of object) none in
    IsUtf8-append (compact_text object) (10 ∷ []) (subst IsUtf8 (ap print tokens ∙ print-outline object) utf8) (IsUtf8-are_ascii (10 ∷ []) refl)
