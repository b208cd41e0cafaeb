-- A text that is written for actions is read as those of them that have a line.
use Rattle.std.proofs.Common.{◌≡◌, ℕ, ℤ, ◌+◌, ◌==◌, Bool, true, false, cond, List, [], ◌∷◌, ◌++◌, length, IsUtf8, Some, option_and_then, Result, Ok, Err, codes, refl, sym, ap, subst, ◌∙◌, arith, append_assoc, append-nil, add-zero}
use Rattle.std.specs.List.{AllByRecursion}
use Rattle.std.proofs.lemmas.Str.{IsUtf8-append, IsUtf8-nil, is_utf8-from_IsUtf8}
use Rattle.std.proofs.lemmas.List.Splits.{slice_split_at}
use Rattle.std.proofs.lemmas.List.Elements.{All-from_recursion}
use Rattle.json.proofs.Printed.Utf8.{IsUtf8-are_ascii}
use Rattle.serde_json.specs.Data.{Data}
use Rattle.serde_json.specs.Read.{read}
use Rattle.serde_json.specs.Written.{compact_text}
use Rattle.dk_model.specs.declared.action.Action.{Action}
use Rattle.dk_model.specs.declared.action.Action.TheVariants as action
use Rattle.dk_model.specs.Shown.{object_with}
use Rattle.dk_model.specs.InfoObject.{own_info_fields, own_info_object}
use Rattle.dk_model.specs.ActionObject.{action_of, object_of}
use Rattle.dk_model.specs.CommitText.{is_blank, json_of, line_means, lines_of, reading, after_line, with_front, commit_in}
use Rattle.dk_model.specs.Ranges.{IsWhole}
use Rattle.dk_model.specs.Written.{line_of, text_of}
use Rattle.dk_model.specs.ReadBack.{IsSound, IsReadable, IsWritable, is_written, written_of, own_info, WrittenReadsBack, OwnReadsBack, LinesAreUtf8}
use Rattle.dk_model.proofs.JsonText.{read_text}
use Rattle.dk_model.proofs.Clear.{text_clear}
use Rattle.dk_model.proofs.Utf8Text.{HasUtf8, utf8_text, cut_utf8}
use Rattle.dk_model.proofs.ShownObjects.{IsShown, shown_action, shown_own_info}
use Rattle.dk_model.proofs.ObjectsBack.{action_back, own_info_back}

-- ---- a line

pub json_some : (line : List ℕ) → IsUtf8 line → json_of line ≡ read line
json_some line h = rw (is_utf8-from_IsUtf8 line h)

not_blank : {A : Type 0} (b : Bool) (x y z : A) → b ≡ false → y ≡ z → cond b x y ≡ z
not_blank true x y z e is = cc
not_blank false x y z e is = is

-- the line of an object that is an action is read as that action
pub line_back : (d : Data) (a : Action) → is_blank (compact_text d) ≡ false → IsUtf8 (compact_text d) → IsShown 4 d → action_of d ≡ Some (Some a) → line_means (compact_text d) ≡ Some (Some a)
unfolding line_means
line_back d a some utf8 shown back =
    not_blank (is_blank (compact_text d)) _ _ _ some
    (ap (option_and_then action_of) (json_some (compact_text d) utf8 ∙ read_text d shown.tidy (omega (arith, shown.shallow))) ∙ back)

begins : (a : Action) → is_blank (compact_text (object_of a)) ≡ false
unfolding object_with
begins a = refl

own_begins : (txn_id : List ℕ) (timestamp : ℤ) → is_blank (compact_text (own_info_object txn_id timestamp)) ≡ false
unfolding object_with
own_begins txn_id timestamp = refl

-- the line of an action is read as that action
abbrev pub IsReadBack : Action → Type 0
IsReadBack a = line_means (compact_text (object_of a)) ≡ Some (Some a)

without_newline : (xs : List ℕ) → IsUtf8 (xs ++ 10 ∷ []) → IsUtf8 xs
without_newline xs u = (cut_utf8 xs [] 10 (omega arith) u).0

with_newline : (xs : List ℕ) → IsUtf8 xs → IsUtf8 (xs ++ 10 ∷ [])
with_newline xs u = IsUtf8-append xs (10 ∷ []) u (IsUtf8-are_ascii (10 ∷ []) refl)

pub read_back : (a : Action) → is_written a ≡ true → IsWritable a → IsUtf8 (line_of a) → IsReadBack a
read_back a e h utf8 =
    let range = h.sound.range h.readable.versions in
    line_back (object_of a) a (begins a) (without_newline (compact_text (object_of a)) utf8) (shown_action a range) (action_back a e range h.readable.no_vector h.sound.keys)

-- ---- the lines of a text

lines_more : (d : Data) (more : List ℕ) → lines_of ((compact_text d ++ 10 ∷ []) ++ more) ≡ compact_text d ∷ lines_of more
lines_more d more =
    ap lines_of (append_assoc (compact_text d) (10 ∷ []) more)
    ∙ slice_split_at (λ b. b == 10) (compact_text d) 10 more (All-from_recursion _ _ (text_clear d)) refl

no_more : (n : ℕ) → reading n (lines_of []) ≡ Ok []
unfolding line_means
no_more n = refl

with_front-twice : (xs ys : List Action) (r : Result (List Action) ℕ) → with_front xs (with_front ys r) ≡ with_front (xs ++ ys) r
with_front-twice xs ys (Ok zs) = ap (λ l. Ok l) (sym (append_assoc xs ys zs))
with_front-twice xs ys (Err n) = refl

with_front-none : (r : Result (List Action) ℕ) → with_front [] r ≡ r
with_front-none (Ok zs) = refl
with_front-none (Err n) = refl

-- a line that is read as an action, before other lines
pub one_line : (n : ℕ) (d : Data) (a : Action) (more : List ℕ) → line_means (compact_text d) ≡ Some (Some a) → reading n (lines_of ((compact_text d ++ 10 ∷ []) ++ more)) ≡ with_front (a ∷ []) (reading (n + 1) (lines_of more))
one_line n d a more is = ap (reading n) (lines_more d more) ∙ ap (λ m. after_line m n (reading (n + 1) (lines_of more))) is

-- the lines of actions, before those of any other text
abbrev Before : List Action → Type 0
Before actions = (n : ℕ) (bytes : List ℕ) → reading n (lines_of (text_of actions ++ bytes)) ≡ with_front (written_of actions) (reading (n + length (written_of actions)) (lines_of bytes))

one_more : (a : Action) (rest : List Action) → IsReadBack a → Before rest
    → (n : ℕ) (bytes : List ℕ) → reading n (lines_of ((line_of a ++ text_of rest) ++ bytes)) ≡ with_front (a ∷ written_of rest) (reading (n + length (a ∷ written_of rest)) (lines_of bytes))
one_more a rest is later n bytes =
    let next : (n + 1) + length (written_of rest) ≡ n + length (a ∷ written_of rest) = omega arith in
    ap (λ t. reading n (lines_of t)) (append_assoc (line_of a) (text_of rest) bytes)
    ∙ one_line n (object_of a) a (text_of rest ++ bytes) is
    ∙ ap (with_front (a ∷ [])) (later (n + 1) bytes ∙ ap (λ m. with_front (written_of rest) (reading m (lines_of bytes))) next)
    ∙ with_front-twice (a ∷ []) (written_of rest) (reading (n + length (a ∷ written_of rest)) (lines_of bytes))

pub lines_before : (actions : List Action) → AllByRecursion IsWritable actions → Before actions
lines_before [] h n bytes = ap (λ m. reading m (lines_of bytes)) (sym (add-zero n)) ∙ sym (with_front-none (reading (n + 0) (lines_of bytes)))
lines_before (action.Protocol p ∷ rest) h n bytes = one_more (action.Protocol p) rest (read_back (action.Protocol p) refl h.0 h.0.sound.utf8) (lines_before rest h.1) n bytes
lines_before (action.Metadata m ∷ rest) h n bytes = one_more (action.Metadata m) rest (read_back (action.Metadata m) refl h.0 h.0.sound.utf8) (lines_before rest h.1) n bytes
lines_before (action.Add f ∷ rest) h n bytes = one_more (action.Add f) rest (read_back (action.Add f) refl h.0 h.0.sound.utf8) (lines_before rest h.1) n bytes
lines_before (action.Remove r ∷ rest) h n bytes = one_more (action.Remove r) rest (read_back (action.Remove r) refl h.0 h.0.sound.utf8) (lines_before rest h.1) n bytes
lines_before (action.Txn t ∷ rest) h n bytes = one_more (action.Txn t) rest (read_back (action.Txn t) refl h.0 h.0.sound.utf8) (lines_before rest h.1) n bytes
lines_before (action.Domain d ∷ rest) h n bytes = one_more (action.Domain d) rest (read_back (action.Domain d) refl h.0 h.0.sound.utf8) (lines_before rest h.1) n bytes
lines_before (action.Info i ∷ rest) h n bytes = lines_before rest h.1 n bytes
lines_before (action.Cdc ∷ rest) h n bytes = lines_before rest h.1 n bytes
lines_before (action.CheckpointMeta m ∷ rest) h n bytes = one_more (action.CheckpointMeta m) rest (read_back (action.CheckpointMeta m) refl h.0 h.0.sound.utf8) (lines_before rest h.1) n bytes
lines_before (action.Sidecar r ∷ rest) h n bytes = one_more (action.Sidecar r) rest (read_back (action.Sidecar r) refl h.0 h.0.sound.utf8) (lines_before rest h.1) n bytes

text_read : (n : ℕ) (actions : List Action) → AllByRecursion IsWritable actions → reading n (lines_of (text_of actions)) ≡ Ok (written_of actions)
text_read n actions h =
    ap (λ t. reading n (lines_of t)) (sym (append-nil (text_of actions))) ∙ lines_before actions h n []
    ∙ ap (with_front (written_of actions)) (no_more (n + length (written_of actions))) ∙ ap (λ l. Ok l) (append-nil (written_of actions))

pub writable : (actions : List Action) → AllByRecursion IsSound actions → AllByRecursion IsReadable actions → AllByRecursion IsWritable actions
writable [] s r = tt
writable (a ∷ rest) s r = (record { sound = s.0; readable = r.0 }, writable rest s.1 r.1)

pub written_reads_back : WrittenReadsBack
written_reads_back actions h = ap commit_in (text_read 1 actions h)

-- ---- a transaction's own line

own_texts : (txn_id : List ℕ) (timestamp : ℤ) → IsUtf8 txn_id → HasUtf8 (own_info_object txn_id timestamp)
unfolding object_with own_info_fields
own_texts txn_id timestamp u =
    (IsUtf8-are_ascii (codes "commitInfo") refl, ((IsUtf8-are_ascii (codes "engineInfo") refl, (IsUtf8-are_ascii (codes "deltak") refl, (IsUtf8-are_ascii (codes "timestamp") refl, (tt, (IsUtf8-are_ascii (codes "txnId") refl, (u, tt)))))), tt))

own_line_back : (txn_id : List ℕ) (timestamp : ℤ) → IsUtf8 txn_id → IsWhole timestamp → line_means (compact_text (own_info_object txn_id timestamp)) ≡ Some (Some (own_info txn_id))
own_line_back txn_id timestamp u range =
    let shown = shown_own_info txn_id timestamp range in
    line_back (own_info_object txn_id timestamp) (own_info txn_id) (own_begins txn_id timestamp) (utf8_text _ shown.tidy (own_texts txn_id timestamp u))
    (record { tidy = shown.tidy; shallow = omega (arith, shown.shallow) }) (own_info_back txn_id timestamp)

pub own_reads_back : OwnReadsBack
own_reads_back txn_id timestamp actions u range h =
    ap commit_in (one_line 1 (own_info_object txn_id timestamp) (own_info txn_id) (text_of actions) (own_line_back txn_id timestamp u range) ∙ ap (with_front (own_info txn_id ∷ [])) (text_read 2 actions h))

-- ---- UTF-8

first_utf8 : (a : Action) (rest : List ℕ) → IsUtf8 (line_of a ++ rest) → IsUtf8 (line_of a) × IsUtf8 rest
first_utf8 a rest u =
    let parts = cut_utf8 (compact_text (object_of a)) rest 10 (omega arith) (subst IsUtf8 (append_assoc (compact_text (object_of a)) (10 ∷ []) rest) u) in
    (with_newline (compact_text (object_of a)) parts.0, parts.1)

pub lines_are_utf8 : LinesAreUtf8
lines_are_utf8 [] u = tt
lines_are_utf8 (action.Protocol p ∷ rest) u = let parts = first_utf8 (action.Protocol p) (text_of rest) u in (parts.0, lines_are_utf8 rest parts.1)
lines_are_utf8 (action.Metadata m ∷ rest) u = let parts = first_utf8 (action.Metadata m) (text_of rest) u in (parts.0, lines_are_utf8 rest parts.1)
lines_are_utf8 (action.Add f ∷ rest) u = let parts = first_utf8 (action.Add f) (text_of rest) u in (parts.0, lines_are_utf8 rest parts.1)
lines_are_utf8 (action.Remove r ∷ rest) u = let parts = first_utf8 (action.Remove r) (text_of rest) u in (parts.0, lines_are_utf8 rest parts.1)
lines_are_utf8 (action.Txn t ∷ rest) u = let parts = first_utf8 (action.Txn t) (text_of rest) u in (parts.0, lines_are_utf8 rest parts.1)
lines_are_utf8 (action.Domain d ∷ rest) u = let parts = first_utf8 (action.Domain d) (text_of rest) u in (parts.0, lines_are_utf8 rest parts.1)
lines_are_utf8 (action.Info i ∷ rest) u = (IsUtf8-nil, lines_are_utf8 rest u)
lines_are_utf8 (action.Cdc ∷ rest) u = (IsUtf8-nil, lines_are_utf8 rest u)
lines_are_utf8 (action.CheckpointMeta m ∷ rest) u = let parts = first_utf8 (action.CheckpointMeta m) (text_of rest) u in (parts.0, lines_are_utf8 rest parts.1)
lines_are_utf8 (action.Sidecar r ∷ rest) u = let parts = first_utf8 (action.Sidecar r) (text_of rest) u in (parts.0, lines_are_utf8 rest parts.1)
