-- A hint that is written is read as it was.
use Rattle.std.proofs.Common.{◌≡◌, ℕ, ◌^◌, ◌≤◌, true, List, Option, Some, None, option_and_then, codes, IsUtf8, if◌then◌else◌, refl, ap, subst, sym, ◌∙◌, arith}
use Rattle.std.specs.Prelude.{IfSome}
use Rattle.std.proofs.lemmas.Bool.{lt-ltb, le-leb}
use Rattle.std.proofs.lemmas.Slice.Eq.{bytes_eq-Decides}
use Rattle.hex.specs.Hex.{encode_lower}
use Rattle.md5.specs.Md5.{md5}
use Rattle.serde_json.specs.Data.{Data, string, Members, member, depth}
use Rattle.serde_json.specs.Find.{get}
use Rattle.serde_json.specs.Read.{read, max_depth}
use Rattle.dk_hint.specs.declared.hint.Hint.{Hint}
use Rattle.dk_hint.specs.Canonical.{canonical_text}
use Rattle.dk_hint.specs.Spelled.{hint_with, fields_of_hint, members_are_whole, checksum_of, agrees_with, hint_in, hint_of}
use Rattle.dk_hint.specs.Written.{IsCount, IsPartCount, IsHint, plain_members, under_checksum, object_of_hint}
use Rattle.dk_hint.proofs.TextOrNot.{is_text}

-- ---- the checksum is that of the rest

same_sum : (sum : List ℕ) (ms : Members) → checksum_of (member (codes "checksum") (string sum) ms) ≡ checksum_of ms
unfolding checksum_of
same_sum sum ms =
    let same : canonical_text (member (codes "checksum") (string sum) ms) ≡ canonical_text ms = refl in
    ap (λ text. encode_lower (md5 text)) same

agrees : (sum : List ℕ) (ms : Members) → members_are_whole ms ≡ true → checksum_of ms ≡ sum → agrees_with (member (codes "checksum") (string sum) ms) (get (codes "checksum") (under_checksum sum ms)) ≡ true
agrees sum ms whole is = rw (whole) ((bytes_eq-Decides sum _).1 (sym (same_sum sum ms ∙ is)))

plain_is_whole : (h : Hint) → IsHint h → members_are_whole (plain_members h) ≡ true
plain_is_whole h is = by h.adds h.parts is.adds is.parts
  where
    by : (adds parts : Option ℕ) → IfSome adds IsCount → IfSome parts IsPartCount → members_are_whole (plain_members (hint_with h.version h.size parts adds)) ≡ true
    by None None a p = rw (lt-ltb h.version (2 ^ 63) is.version, lt-ltb h.size (2 ^ 63) is.size)
    by None (Some n) a p = rw (lt-ltb h.version (2 ^ 63) is.version, lt-ltb h.size (2 ^ 63) is.size, lt-ltb n (2 ^ 63) (omega (arith, p.1)))
    by (Some m) None a p = rw (lt-ltb h.version (2 ^ 63) is.version, lt-ltb h.size (2 ^ 63) is.size, lt-ltb m (2 ^ 63) a)
    by (Some m) (Some n) a p = rw (lt-ltb h.version (2 ^ 63) is.version, lt-ltb h.size (2 ^ 63) is.size, lt-ltb m (2 ^ 63) a, lt-ltb n (2 ^ 63) (omega (arith, p.1)))

-- ---- the fields

fields_back : (sum : List ℕ) (h : Hint) → IsHint h → fields_of_hint (under_checksum sum (plain_members h)) ≡ Some h
fields_back sum h is = by h.adds h.parts is.adds is.parts
  where
    by : (adds parts : Option ℕ) → IfSome adds IsCount → IfSome parts IsPartCount
        → fields_of_hint (under_checksum sum (plain_members (hint_with h.version h.size parts adds))) ≡ Some (hint_with h.version h.size parts adds)
    by None None a p = rw (lt-ltb h.version (2 ^ 63) is.version, lt-ltb h.size (2 ^ 63) is.size)
    by None (Some n) a p = rw (lt-ltb h.version (2 ^ 63) is.version, lt-ltb h.size (2 ^ 63) is.size, lt-ltb n (2 ^ 32) p.1, le-leb 1 n p.0)
    by (Some m) None a p = rw (lt-ltb h.version (2 ^ 63) is.version, lt-ltb h.size (2 ^ 63) is.size, lt-ltb m (2 ^ 63) a)
    by (Some m) (Some n) a p = rw (lt-ltb h.version (2 ^ 63) is.version, lt-ltb h.size (2 ^ 63) is.size, lt-ltb n (2 ^ 32) p.1, le-leb 1 n p.0, lt-ltb m (2 ^ 63) a)

-- ---- the bytes

hint_back : (h : Hint) → IsHint h → hint_in (object_of_hint h) ≡ Some h
hint_back h is =
    let sum = checksum_of (plain_members h) in
    ap (λ b. if b then fields_of_hint (under_checksum sum (plain_members h)) else None) (agrees sum (plain_members h) (plain_is_whole h is) refl) ∙ fields_back sum h is

shallow : (sum : List ℕ) (h : Hint) → depth (under_checksum sum (plain_members h)) ≤ max_depth
shallow sum h = by h.adds h.parts
  where
    by : (adds parts : Option ℕ) → depth (under_checksum sum (plain_members (hint_with h.version h.size parts adds))) ≤ max_depth
    by None None = omega arith
    by None (Some p) = omega arith
    by (Some a) None = omega arith
    by (Some a) (Some p) = omega arith

pub written_back : (h : Hint) (bytes : List ℕ) (d : Data) → IsHint h → IsUtf8 bytes → d ≡ object_of_hint h → (depth d ≤ max_depth → read bytes ≡ Some d) → hint_of bytes ≡ Some h
written_back h bytes d is utf8 same reads =
    let within : depth d ≤ max_depth = subst (λ e. depth e ≤ max_depth) (sym same) (shallow (checksum_of (plain_members h)) h) in
    is_text bytes utf8 ∙ ap (option_and_then hint_in) (reads within) ∙ ap hint_in same ∙ hint_back h is
