-- The compact text of a value whose texts are UTF-8 is UTF-8, and so are the parts of a text that is cut at an ASCII byte.
use Rattle.std.proofs.Common.{ℕ, ◌<◌, ◌+◌, pos, negsuc, Bool, true, false, List, [], ◌∷◌, ◌++◌, length, get_or, IsUtf8, refl, sym, subst, arith}
use Rattle.std.proofs.lemmas.List.{length-append}
use Rattle.std.proofs.Math.Seq.{take-append_seam, drop-append-add, get_or-append_seam}
use Rattle.std.proofs.lemmas.Fmt.{IsAscii-decimal, IsAscii-signed}
use Rattle.std.proofs.lemmas.Str.{IsUtf8-append, IsUtf8-nil, IsUtf8-from_ascii, IsUtf8-take, IsUtf8-drop, IsCharBoundary-before_ascii, IsCharBoundary-after_ascii}
use Rattle.json.proofs.Printed.Utf8.{IsUtf8-are_ascii, IsUtf8-quoted, IsUtf8-boolean}
use Rattle.json.specs.Print.{quoted}
use Rattle.serde_json.specs.Data.{Num, unsigned, negative, float, Data, null, boolean, number, string, array, object, Items, no_items, item, Members, no_members, member}
use Rattle.serde_json.specs.Written.{number_text, comma_if, compact_text, items_text, members_text}
use Rattle.dk_model.proofs.JsonText.{IsTidyNumber, IsTidy, AreTidyItems, AreTidy}

abbrev mutual
  pub HasUtf8 : Data → Type 0
  HasUtf8 null = Unit {0}
  HasUtf8 (boolean b) = Unit {0}
  HasUtf8 (number n) = Unit {0}
  HasUtf8 (string s) = IsUtf8 s
  HasUtf8 (array ds) = ItemsHaveUtf8 ds
  HasUtf8 (object ms) = MembersHaveUtf8 ms

  pub ItemsHaveUtf8 : Items → Type 0
  ItemsHaveUtf8 no_items = Unit {0}
  ItemsHaveUtf8 (item d ds) = HasUtf8 d × ItemsHaveUtf8 ds

  pub MembersHaveUtf8 : Members → Type 0
  MembersHaveUtf8 no_members = Unit {0}
  MembersHaveUtf8 (member k d ms) = IsUtf8 k × (HasUtf8 d × MembersHaveUtf8 ms)

comma_utf8 : (later : Bool) → IsUtf8 (comma_if later)
comma_utf8 true = IsUtf8-are_ascii (44 ∷ []) refl
comma_utf8 false = IsUtf8-nil

number_utf8 : (n : Num) → IsTidyNumber n → IsUtf8 (number_text n)
number_utf8 (unsigned n) h = IsUtf8-from_ascii _ (IsAscii-decimal n h)
number_utf8 (negative (pos n)) h = absurd h
number_utf8 (negative (negsuc n)) h = IsUtf8-from_ascii _ (IsAscii-signed (negsuc n) h)
number_utf8 (float x) h = absurd h

ascii_first : (b : ℕ) (xs : List ℕ) → IsUtf8 (b ∷ []) → IsUtf8 xs → IsUtf8 (b ∷ xs)
ascii_first b xs one rest = IsUtf8-append (b ∷ []) xs one rest

mutual
  pub utf8_text : (d : Data) → IsTidy d → HasUtf8 d → IsUtf8 (compact_text d)
  utf8_text null h u = IsUtf8-are_ascii _ refl
  utf8_text (boolean b) h u = IsUtf8-boolean b
  utf8_text (number n) h u = number_utf8 n h
  utf8_text (string s) h u = IsUtf8-quoted s u
  utf8_text (array ds) h u = ascii_first 91 _ (IsUtf8-are_ascii (91 ∷ []) refl) (utf8_items false ds h u)
  utf8_text (object ms) h u = ascii_first 123 _ (IsUtf8-are_ascii (123 ∷ []) refl) (utf8_members false ms h u)

  utf8_items : (later : Bool) (ds : Items) → AreTidyItems ds → ItemsHaveUtf8 ds → IsUtf8 (items_text later ds)
  utf8_items later no_items h u = IsUtf8-are_ascii (93 ∷ []) refl
  utf8_items later (item d ds) h u = IsUtf8-append _ _ (comma_utf8 later) (IsUtf8-append _ _ (utf8_text d h.0 u.0) (utf8_items true ds h.1 u.1))

  utf8_members : (later : Bool) (ms : Members) → AreTidy ms → MembersHaveUtf8 ms → IsUtf8 (members_text later ms)
  utf8_members later no_members h u = IsUtf8-are_ascii (125 ∷ []) refl
  utf8_members later (member k d ms) h u =
      IsUtf8-append _ _ (comma_utf8 later) (IsUtf8-append (quoted k) (58 ∷ (compact_text d ++ members_text true ms)) (IsUtf8-quoted k u.0)
      (ascii_first 58 _ (IsUtf8-are_ascii (58 ∷ []) refl) (IsUtf8-append _ _ (utf8_text d h.1.0 u.1.0) (utf8_members true ms h.1.1 u.1.1))))

pub cut_utf8 : (xs ys : List ℕ) (b : ℕ) → b < 128 → IsUtf8 (xs ++ b ∷ ys) → IsUtf8 xs × IsUtf8 ys
cut_utf8 xs ys b small u =
    let bs = xs ++ b ∷ ys in
    let within : length xs < length bs = omega (arith, length-append xs (b ∷ ys)) in
    let low : get_or bs (length xs) 0 < 128 = subst (λ n. n < 128) (sym (get_or-append_seam xs b ys 0)) small in (
      subst IsUtf8 (take-append_seam xs (b ∷ ys)) (IsUtf8-take bs (length xs) u (IsCharBoundary-before_ascii bs (length xs) within low)),
      subst IsUtf8 (drop-append-add xs (b ∷ ys) 1) (IsUtf8-drop bs (length xs + 1) u (IsCharBoundary-after_ascii bs (length xs) u within low)),
    )
