-- What a JSON value is read as.
use Rattle.std.proofs.Common.{◌≡◌, ℕ, List, [], ◌∷◌, Bool, true, false, ◌&&◌, cond, Option, Some, None, option_map, option_and_then, is_some, refl, sym, ap, ◌∙◌}
use Rattle.std.specs.Option.{option_or}
use Rattle.std.specs.Str.{bytes_eq}
use Rattle.std.proofs.lemmas.Slice.Eq.{bytes_eq-Decides}
use Rattle.json.specs.Json as json
use Rattle.json.specs.Find as find
use Rattle.json.specs.Token.{Token}
use Rattle.json.specs.Lex.{tokens}
use Rattle.serde_json.specs.Data as json_data
use Rattle.serde_json.specs.Data.{Num, Data, number, Items, item, Members, no_members, put}
use Rattle.serde_json.specs.Find.{get, get_member}
use Rattle.serde_json.specs.Read.{number_of, read, of_json, of_items, of_members}
use Rattle.dk_model.specs.Fields.{present, field}
use Rattle.serde_json.proofs.Views.{get_member-put, get_member-put_other}
use Rattle.dk_actjson.specs.Seen.{seen_number, seen, seen_items, seen_members, has_values, items_have_values, members_have_values}

number_case : (o : Option Num) → option_map number o ≡ cond (is_some o) (Some (seen_number o)) None
number_case None = refl
number_case (Some n) = refl

map_case : {A B : Type 0} (f : A → B) (b : Bool) (x : A) → option_map f (cond b (Some x) None) ≡ cond b (Some (f x)) None
map_case f true x = refl
map_case f false x = refl

item_case : (a b : Bool) (d : Data) (ds : Items) → option_and_then (λ x. option_map (item x) (cond b (Some ds) None)) (cond a (Some d) None) ≡ cond (a && b) (Some (item d ds)) None
item_case true true d ds = refl
item_case true false d ds = refl
item_case false b d ds = refl

member_case : (a b : Bool) (d : Data) (rest : Data → Option Members) (ms : Members) → rest d ≡ cond b (Some ms) None → option_and_then rest (cond a (Some d) None) ≡ cond (a && b) (Some ms) None
member_case true b d rest ms e = e
member_case false b d rest ms e = refl

-- a value is read as what is seen of it, exactly where its numbers are in range
mutual
  pub read_seen : (j : json.Json) → of_json j ≡ cond (has_values j) (Some (seen j)) None
  read_seen json.null = refl
  read_seen (json.boolean b) = refl
  read_seen (json.number s) = number_case (number_of s)
  read_seen (json.string s) = refl
  read_seen (json.array js) = ap (option_map json_data.array) (read_items js) ∙ map_case json_data.array (items_have_values js) (seen_items js)
  read_seen (json.object ms) = ap (option_map json_data.object) (read_members ms no_members) ∙ map_case json_data.object (members_have_values ms) (seen_members ms no_members)

  read_items : (js : json.Items) → of_items js ≡ cond (items_have_values js) (Some (seen_items js)) None
  read_items json.no_items = refl
  read_items (json.item j js) =
      ap (λ r. option_and_then (λ d. option_map (item d) (of_items js)) r) (read_seen j)
      ∙ ap (λ r. option_and_then (λ d. option_map (item d) r) (cond (has_values j) (Some (seen j)) None)) (read_items js)
      ∙ item_case (has_values j) (items_have_values js) (seen j) (seen_items js)

  read_members : (ms : json.Members) (found : Members) → of_members ms found ≡ cond (members_have_values ms) (Some (seen_members ms found)) None
  read_members json.no_members found = refl
  read_members (json.member k j ms) found =
      ap (λ r. option_and_then (λ d. of_members ms (put k d found)) r) (read_seen j)
      ∙ member_case (has_values j) (members_have_values ms) (seen j) (λ d. of_members ms (put k d found)) (seen_members ms (put k (seen j) found)) (read_members ms (put k (seen j) found))

-- ---- looking up a member

put_case : (q k : List ℕ) (j : json.Json) (found : Members) (b : Bool) → bytes_eq k q ≡ b → get_member q (put k (seen j) found) ≡ option_or (option_map seen (cond b (Some j) None)) (get_member q found)
put_case q k j found true e = let same : k ≡ q = (bytes_eq-Decides k q).0 e in ap (λ x. get_member x (put k (seen j) found)) (sym same) ∙ get_member-put k (seen j) found
put_case q k j found false e = get_member-put_other q k (seen j) found (λ same. differs ((bytes_eq-Decides k q).1 (sym same)) e)
  where
    differs : {b : Bool} → b ≡ true → b ≡ false → ⊥
    differs t f = cc

later_case : (o earlier : Option json.Json) (old : Option Data) → option_or (option_map seen o) (option_or (option_map seen earlier) old) ≡ option_or (option_map seen (find.later_or o earlier)) old
later_case None earlier old = refl
later_case (Some j) earlier old = refl

member_seen : (q : List ℕ) (ms : json.Members) (found : Members) → get_member q (seen_members ms found) ≡ option_or (option_map seen (find.get_member q ms)) (get_member q found)
member_seen q json.no_members found = refl
member_seen q (json.member k j ms) found =
    member_seen q ms (put k (seen j) found)
    ∙ ap (option_or (option_map seen (find.get_member q ms))) (put_case q k j found (bytes_eq k q) refl)
    ∙ later_case (find.get_member q ms) (cond (bytes_eq k q) (Some j) None) (get_member q found)

option_or-none : (o : Option Data) → option_or o None ≡ o
option_or-none None = refl
option_or-none (Some d) = refl

-- the member of a name is what is seen of the last one
pub get_seen : (q : List ℕ) (j : json.Json) → get q (seen j) ≡ option_map seen (find.get q j)
get_seen q json.null = refl
get_seen q (json.boolean b) = refl
get_seen q (json.number s) = by_number (number_of s)
  where
    by_number : (o : Option Num) → get q (seen_number o) ≡ None
    by_number None = refl
    by_number (Some n) = refl
get_seen q (json.string s) = refl
get_seen q (json.array js) = refl
get_seen q (json.object ms) = member_seen q ms no_members ∙ option_or-none (option_map seen (find.get_member q ms))

present_seen : (j : json.Json) → present (Some (seen j)) ≡ cond (find.is_null j) None (Some (seen j))
present_seen json.null = refl
present_seen (json.boolean b) = refl
present_seen (json.number s) = by_number (number_of s)
  where
    by_number : (o : Option Num) → present (Some (seen_number o)) ≡ Some (seen_number o)
    by_number None = refl
    by_number (Some n) = refl
present_seen (json.string s) = refl
present_seen (json.array js) = refl
present_seen (json.object ms) = refl

-- a field, from the member that was found
pub field_by : (q : List ℕ) (j : json.Json) (o : Option json.Json) → o ≡ find.get q j → field q (seen j) ≡ option_and_then (λ k. cond (find.is_null k) None (Some (seen k))) o
field_by q j o is = ap present (get_seen q j ∙ ap (option_map seen) (sym is)) ∙ by_found o
  where
    by_found : (o : Option json.Json) → present (option_map seen o) ≡ option_and_then (λ k. cond (find.is_null k) None (Some (seen k))) o
    by_found None = refl
    by_found (Some k) = present_seen k

-- ---- the value of a text

-- where nothing follows the value, the text is read as what is seen of it, exactly where its numbers are in range
pub read_whole : (text : List ℕ) (ts rest : List Token) (j : json.Json) → ts ≡ tokens text → json.value 127 ts ≡ Some (j, rest) → rest ≡ [] → read text ≡ cond (has_values j) (Some (seen j)) None
read_whole text ts rest j is found none =
    ap (λ r. option_and_then of_json (option_and_then (λ p. json.if_last p.0 p.1) r)) (ap (json.value 127) (sym is) ∙ found ∙ ap (λ r. Some (j, r)) none) ∙ read_seen j

-- where something follows, or there is no value, the text has none
pub read_more : (text : List ℕ) (ts rest : List Token) (j : json.Json) (t : Token) (more : List Token) → ts ≡ tokens text → json.value 127 ts ≡ Some (j, rest) → rest ≡ t ∷ more → read text ≡ None
read_more text ts rest j t more is found some =
    ap (λ r. option_and_then of_json (option_and_then (λ p. json.if_last p.0 p.1) r)) (ap (json.value 127) (sym is) ∙ found ∙ ap (λ r. Some (j, r)) some)
