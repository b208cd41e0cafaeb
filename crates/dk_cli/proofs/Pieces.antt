-- The text of `show` from its pieces.
use Rattle.std.proofs.Common.{◌≡◌, ℕ, ℤ, List, [], ◌++◌, Bool, ap, sym, subst, ◌∙◌, append_assoc}
use Rattle.std.specs.FinMap.{entries}
use Rattle.dk_model.specs.declared.state.TableState.{TableState}
use Rattle.dk_model.specs.Contents.{heads, adds, removals, named_actions, canonical, is_later}
use Rattle.dk_model.specs.Written.{text_of}
use Rattle.dk_model.proofs.Contents.{canonical_text, text_of-append}

-- three pieces, one behind the other
three : (none one two all first second third : List ℕ) → one ≡ none ++ first → two ≡ one ++ second → all ≡ two ++ third → all ≡ none ++ (first ++ (second ++ third))
three none one two all first second third a b c =
    c ∙ ap (λ (x : List ℕ). x ++ third) (b ∙ ap (λ (x : List ℕ). x ++ second) a) ∙ append_assoc (none ++ first) second third ∙ append_assoc none first (second ++ third)

-- a line, and then the protocol and the metadata
pub head : (state : TableState) (none one two all line second third : List ℕ) → second ++ third ≡ text_of (heads state) → one ≡ none ++ line → two ≡ one ++ second → all ≡ two ++ third
    → all ≡ none ++ (line ++ text_of (heads state))
head state none one two all line second third are a b c = three none one two all line second third a b c ∙ ap (λ (x : List ℕ). none ++ (line ++ x)) are

-- a line and the head, then the files and tombstones, then the applications and domains
whole : (state : TableState) (keeps : List ℕ × ℤ → Bool) (line none one two all : List ℕ) → none ≡ [] → one ≡ none ++ (line ++ text_of (heads state))
    → two ≡ one ++ text_of (adds (entries state.files) ++ removals state keeps) → all ≡ two ++ text_of (named_actions state) → all ≡ line ++ text_of (canonical state keeps)
whole state keeps line none one two all empty a b c =
    three none one two all (line ++ text_of (heads state)) (text_of (adds (entries state.files) ++ removals state keeps)) (text_of (named_actions state)) a b c
    ∙ ap (λ (x : List ℕ). x ++ ((line ++ text_of (heads state)) ++ (text_of (adds (entries state.files) ++ removals state keeps) ++ text_of (named_actions state)))) empty
    ∙ append_assoc line (text_of (heads state)) (text_of (adds (entries state.files) ++ removals state keeps) ++ text_of (named_actions state))
    ∙ ap (λ (x : List ℕ). line ++ (text_of (heads state) ++ x))
    (ap (λ (x : List ℕ). x ++ text_of (named_actions state)) (text_of-append (adds (entries state.files)) (removals state keeps))
    ∙ append_assoc (text_of (adds (entries state.files))) (text_of (removals state keeps)) (text_of (named_actions state)))
    ∙ ap (λ (x : List ℕ). line ++ x) (sym (canonical_text state keeps (entries state.files)))

-- the cut that is handed on is that of the call
pub whole_at : (state : TableState) (cut passed : ℤ) (line none one two all : List ℕ) → passed ≡ cut → none ≡ [] → one ≡ none ++ (line ++ text_of (heads state))
    → two ≡ one ++ text_of (adds (entries state.files) ++ removals state (is_later passed)) → all ≡ two ++ text_of (named_actions state) → all ≡ line ++ text_of (canonical state (is_later cut))
whole_at state cut passed line none one two all same empty a b c =
    subst (λ (z : ℤ). all ≡ line ++ text_of (canonical state (is_later z))) same (whole state (is_later passed) line none one two all empty a b c)
