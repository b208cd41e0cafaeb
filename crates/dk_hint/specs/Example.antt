-- Worked hints.
use Rattle.std.specs.Prelude.{◌≡◌, Some, None, codes}
use Rattle.serde_json.specs.Data.{Members, null, number, string, array, object, no_items, item, no_members, member, unsigned}
use Rattle.dk_hint.specs.Canonical.{canonical_text}
use Rattle.dk_hint.specs.Spelled.{hint_in, hint_with}

abbrev pub with_lists : Members
with_lists = (member (codes "a b") (array (item (number (unsigned 5)) (item null no_items))) (member (codes "c") (object no_members) (member (codes "B") (string (codes "x/y")) no_members)))

abbrev pub CanonicalTextIs : Type 0
CanonicalTextIs = canonical_text with_lists ≡ codes "\"B\"=\"x%2Fy\",\"a%20b\"+0=5,\"a%20b\"+1=null"

abbrev pub PlainHintIsRead : Type 0
PlainHintIsRead = hint_in (object (member (codes "size") (number (unsigned 4)) (member (codes "version") (number (unsigned 3)) no_members))) ≡ Some (hint_with 3 4 None None)

abbrev pub NullIsNoHint : Type 0
NullIsNoHint =
    hint_in (object (member (codes "parts") null (member (codes "size") (number (unsigned 4)) (member (codes "version") (number (unsigned 3)) no_members)))) ≡ None
