-- A JSON value without floats is read back from its compact text.
use Rattle.std.proofs.Common.{◌≡◌, ℕ, suc, pos, negsuc, ◌^◌, ◌<◌, ◌≤◌, List, [], ◌++◌, Some, option_map, option_and_then, Ordering, Less, Equal, Greater, nat_cmp, refl, sym, ap, ◌∙◌, subst, append-nil}
use Rattle.std.specs.Ordering.{match_ordering, ordering_reverse}
use Rattle.std.specs.Cmp.Lexicographic.{slice_cmp}
use Rattle.std.proofs.lemmas.Cmp.{nat_list_cmp_total}
use Rattle.json.specs.Lex.{tokens}
use Rattle.json.specs.Json as json
use Rattle.json.specs.Print.{IsNumber}
use Rattle.json.specs.Tree as tree
use Rattle.json.specs.Tree.{json_tokens, HasNumbers, ItemsHaveNumbers, MembersHaveNumbers}
use Rattle.json.proofs.Printed.Tokens.{tokens-print}
use Rattle.json.proofs.Printed.Trees.{value-json_tokens, ArePrintable-json_tokens}
use Rattle.json.proofs.Printed.Decimals.{IsNumber-decimal, IsNumber-signed_decimal}
use Rattle.serde_json.specs.Data.{Num, unsigned, negative, float, Data, null, boolean, number, string, array, object, Items, no_items, item, Members, no_members, member, put, depth, items_depth, members_depth}
use Rattle.serde_json.specs.Read.{read, number_of, of_json, of_items, of_members, max_depth}
use Rattle.serde_json.specs.Written.{number_text, outline, items_outline, members_outline, compact_text}
use Rattle.serde_json.proofs.Numbers.{number_of-decimal, number_of-negative}
use Rattle.serde_json.proofs.Texts.{print-outline}

-- ---- a value as a writer keeps it: whole numbers in range, the keys of each object rising

abbrev pub IsTidyNumber : Num → Type 0
IsTidyNumber (unsigned n) = n < 2 ^ 64
IsTidyNumber (negative (pos n)) = ⊥
IsTidyNumber (negative (negsuc n)) = n < 2 ^ 63
IsTidyNumber (float x) = ⊥

-- the key is below those of the members
abbrev pub IsAbove : List ℕ → Members → Type 0
IsAbove k no_members = Unit {0}
IsAbove k (member l e ms) = (slice_cmp nat_cmp k l ≡ Less) × IsAbove k ms

abbrev mutual
  pub IsTidy : Data → Type 0
  IsTidy null = Unit {0}
  IsTidy (boolean b) = Unit {0}
  IsTidy (number n) = IsTidyNumber n
  IsTidy (string s) = Unit {0}
  IsTidy (array ds) = AreTidyItems ds
  IsTidy (object ms) = AreTidy ms

  pub AreTidyItems : Items → Type 0
  AreTidyItems no_items = Unit {0}
  AreTidyItems (item d ds) = IsTidy d × AreTidyItems ds

  pub AreTidy : Members → Type 0
  AreTidy no_members = Unit {0}
  AreTidy (member k d ms) = IsAbove k ms × (IsTidy d × AreTidy ms)

-- ---- putting a member keeps it so

reversed : (k l : List ℕ) → slice_cmp nat_cmp k l ≡ Greater → slice_cmp nat_cmp l k ≡ Less
reversed k l is = nat_list_cmp_total.antisymm l k ∙ ap ordering_reverse is

above_all : (k l : List ℕ) (ms : Members) → slice_cmp nat_cmp k l ≡ Less → IsAbove l ms → IsAbove k ms
above_all k l no_members below h = tt
above_all k l (member m e ms) below h = (nat_list_cmp_total.trans k l m below h.0, above_all k l ms below h.1)

above_choice : (o : Ordering) (l : List ℕ) (a b c : Members) → IsAbove l a → IsAbove l b → IsAbove l c → IsAbove l (match_ordering o a b c)
above_choice Less l a b c p q r = p
above_choice Equal l a b c p q r = q
above_choice Greater l a b c p q r = r

above_put : (l k : List ℕ) (d : Data) (ms : Members) → slice_cmp nat_cmp l k ≡ Less → IsAbove l ms → IsAbove l (put k d ms)
above_put l k d no_members below h = (below, tt)
above_put l k d (member m e ms) below h = above_choice (slice_cmp nat_cmp k m) l _ _ _ (below, h) h (h.0, above_put l k d ms below h.1)

tidy_at : (o : Ordering) (k l : List ℕ) (d e : Data) (ms : Members) → slice_cmp nat_cmp k l ≡ o → IsTidy d → AreTidy (member l e ms) → AreTidy (put k d ms)
    → AreTidy (match_ordering o (member k d (member l e ms)) (member l d ms) (member l e (put k d ms)))
tidy_at Less k l d e ms is p q later = ((is, above_all k l ms is q.0), (p, q))
tidy_at Equal k l d e ms is p q later = (q.0, (p, q.1.1))
tidy_at Greater k l d e ms is p q later = (above_put l k d ms (reversed k l is) q.0, (q.1.0, later))

pub tidy_put : (k : List ℕ) (d : Data) (ms : Members) → IsTidy d → AreTidy ms → AreTidy (put k d ms)
tidy_put k d no_members p q = (tt, (p, tt))
tidy_put k d (member l e ms) p q = tidy_at (slice_cmp nat_cmp k l) k l d e ms refl p q (tidy_put k d ms p q.1.1)

-- ---- members that are put in rising order come out as they are

abbrev joined : Members → Members → Members
joined no_members ms = ms
joined (member l e found) ms = member l e (joined found ms)

-- the key is above those found
abbrev IsLast : List ℕ → Members → Type 0
IsLast k no_members = Unit {0}
IsLast k (member l e found) = (slice_cmp nat_cmp l k ≡ Less) × IsLast k found

abbrev AllLast : Members → Members → Type 0
AllLast found no_members = Unit {0}
AllLast found (member k d ms) = IsLast k found × AllLast found ms

put_last : (found : Members) (k : List ℕ) (d : Data) → IsLast k found → put k d found ≡ joined found (member k d no_members)
put_last no_members k d h = refl
put_last (member l e found) k d h =
    let above : slice_cmp nat_cmp k l ≡ Greater = nat_list_cmp_total.antisymm k l ∙ ap ordering_reverse h.0 in
    rw above (ap (member l e) (put_last found k d h.1))

last_joined : (m : List ℕ) (found : Members) (k : List ℕ) (d : Data) → IsLast m found → slice_cmp nat_cmp k m ≡ Less → IsLast m (joined found (member k d no_members))
last_joined m no_members k d h below = (below, tt)
last_joined m (member l e found) k d h below = (h.0, last_joined m found k d h.1 below)

all_joined : (found : Members) (k : List ℕ) (d : Data) (ms : Members) → AllLast found ms → IsAbove k ms → AllLast (joined found (member k d no_members)) ms
all_joined found k d no_members h above = tt
all_joined found k d (member l e ms) h above = (last_joined l found k d h.0 above.0, all_joined found k d ms h.1 above.1)

joined_assoc : (found : Members) (k : List ℕ) (d : Data) (ms : Members) → joined (joined found (member k d no_members)) ms ≡ joined found (member k d ms)
joined_assoc no_members k d ms = refl
joined_assoc (member l e found) k d ms = ap (member l e) (joined_assoc found k d ms)

none_last : (ms : Members) → AllLast no_members ms
none_last no_members = tt
none_last (member k d ms) = (tt, none_last ms)

-- ---- the tree of its text is the value

number_back : (n : Num) → IsTidyNumber n → number_of (number_text n) ≡ Some n
number_back (unsigned n) h = number_of-decimal n h
number_back (negative (pos n)) h = absurd h
number_back (negative (negsuc n)) h = number_of-negative n h
number_back (float x) h = absurd h

mutual
  of_outline : (d : Data) → IsTidy d → of_json (outline d) ≡ Some d
  of_outline null h = refl
  of_outline (boolean b) h = refl
  of_outline (number n) h = ap (option_map number) (number_back n h)
  of_outline (string s) h = refl
  of_outline (array ds) h = ap (option_map array) (of_items_outline ds h)
  of_outline (object ms) h = ap (option_map object) (of_members_outline ms no_members h (none_last ms))

  of_items_outline : (ds : Items) → AreTidyItems ds → of_items (items_outline ds) ≡ Some ds
  of_items_outline no_items h = refl
  of_items_outline (item d ds) h = ap (option_and_then (λ x. option_map (item x) (of_items (items_outline ds)))) (of_outline d h.0) ∙ ap (option_map (item d)) (of_items_outline ds h.1)

  of_members_outline : (ms found : Members) → AreTidy ms → AllLast found ms → of_members (members_outline ms) found ≡ Some (joined found ms)
  of_members_outline no_members found h last = ap Some (ends found)
    where
      ends : (found : Members) → found ≡ joined found no_members
      ends no_members = refl
      ends (member l e found) = ap (member l e) (ends found)
  of_members_outline (member k d ms) found h last =
      ap (option_and_then (λ x. of_members (members_outline ms) (put k x found))) (of_outline d h.1.0)
      ∙ ap (of_members (members_outline ms)) (put_last found k d last.0)
      ∙ of_members_outline ms (joined found (member k d no_members)) h.1.1 (all_joined found k d ms last.1 h.0)
      ∙ ap Some (joined_assoc found k d ms)

-- ---- its tokens are printed and read

number_is : (n : Num) → IsTidyNumber n → IsNumber (number_text n)
number_is (unsigned n) h = IsNumber-decimal n h
number_is (negative (pos n)) h = absurd h
number_is (negative (negsuc n)) h = IsNumber-signed_decimal (negsuc n) h
number_is (float x) h = absurd h

mutual
  numbers : (d : Data) → IsTidy d → HasNumbers (outline d)
  numbers null h = tt
  numbers (boolean b) h = tt
  numbers (number n) h = number_is n h
  numbers (string s) h = tt
  numbers (array ds) h = item_numbers ds h
  numbers (object ms) h = member_numbers ms h

  item_numbers : (ds : Items) → AreTidyItems ds → ItemsHaveNumbers (items_outline ds)
  item_numbers no_items h = tt
  item_numbers (item d ds) h = (numbers d h.0, item_numbers ds h.1)

  member_numbers : (ms : Members) → AreTidy ms → MembersHaveNumbers (members_outline ms)
  member_numbers no_members h = tt
  member_numbers (member k d ms) h = (numbers d h.1.0, member_numbers ms h.1.1)

mutual
  same_depth : (d : Data) → tree.depth (outline d) ≡ depth d
  same_depth null = refl
  same_depth (boolean b) = refl
  same_depth (number n) = refl
  same_depth (string s) = refl
  same_depth (array ds) = ap suc (same_items_depth ds)
  same_depth (object ms) = ap suc (same_members_depth ms)

  same_items_depth : (ds : Items) → tree.items_depth (items_outline ds) ≡ items_depth ds
  same_items_depth no_items = refl
  same_items_depth (item d ds) = rw (same_depth d, same_items_depth ds)

  same_members_depth : (ms : Members) → tree.members_depth (members_outline ms) ≡ members_depth ms
  same_members_depth no_members = refl
  same_members_depth (member k d ms) = rw (same_depth d, same_members_depth ms)

pub read_text : (d : Data) → IsTidy d → depth d ≤ max_depth → read (compact_text d) ≡ Some d
read_text d tidy shallow =
    let whole : tokens (compact_text d) ≡ json_tokens (outline d) ++ [] =
    ap tokens (sym (print-outline d)) ∙ tokens-print (json_tokens (outline d)) (ArePrintable-json_tokens (outline d) (numbers d tidy)) ∙ sym (append-nil (json_tokens (outline d))) in
    let value : json.value max_depth (tokens (compact_text d)) ≡ Some (outline d, []) =
    ap (json.value max_depth) whole ∙ value-json_tokens (outline d) max_depth [] (subst (λ n. n ≤ max_depth) (sym (same_depth d)) shallow) in
    ap (λ r. option_and_then of_json (option_and_then (λ p. json.if_last p.0 p.1) r)) value ∙ of_outline d tidy
