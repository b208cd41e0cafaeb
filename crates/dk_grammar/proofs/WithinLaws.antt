-- Each front leads to a place within the bytes.
use Rattle.std.proofs.Common.{◌≡◌, ℕ, zero, suc, ◌-◌, ◌<◌, ◌≤◌, ◌/◌, ◌%◌, ◌^◌, Bool, true, false, cond, nat_lt, nat_le, ◌&&◌, ◌||◌, ◌==◌, ℤ, pos, ◌+ℤ◌, List, [], ◌∷◌, length, drop, take, Option, Some, None, Result, Ok, Err, arith, length-drop}
use Rattle.dk_grammar.specs.Varint.{varint_at, with_lowest_group}
use Rattle.dk_grammar.specs.Thrift.{Front, ◌>>=◌, bad_at, of_64_bits, number_at, whole_at, bytes_at, binary_at, count_at, list_at, field_at, id_at, is_id, is_kind}
use Rattle.dk_grammar.specs.Passed.{Rest, rest_of, each, entry_passed, entries_passed, list_passed, map_passed, value_passed, field_passed, fields_passed, too_deep, element_passed, kind_numbered, passed_at}
use Rattle.dk_grammar.specs.Within.{Within}
use Rattle.dk_grammar.specs.declared.thrift.Field.{Field}
use Rattle.dk_grammar.specs.declared.thrift.Field.TheVariants.{End, Next}
use Rattle.dk_grammar.specs.declared.thrift.Kind.{Kind}
use Rattle.dk_grammar.specs.declared.thrift.Kind.TheVariants as kinds
use Rattle.dk_grammar.specs.declared.thrift.Flaw.{Flaw}
use Rattle.dk_grammar.specs.declared.thrift.Flaw.TheVariants.{Short}

-- a choice is within where both sides are
either : {A : Type 0} (rest : A → List ℕ) (bytes : List ℕ) (b : Bool) (x y : Result A Flaw) → Within rest bytes x → Within rest bytes y → Within rest bytes (cond b x y)
either rest bytes true x y f g = f
either rest bytes false x y f g = g

longer : {A : Type 0} (rest : A → List ℕ) (short long : List ℕ) (r : Result A Flaw) → length short ≤ length long → Within rest short r → Within rest long r
longer rest short long (Ok x) h w = omega arith
longer rest short long (Err flaw) h w = omega arith

-- and so is what follows
then_ : {A B : Type 0} (first : A → List ℕ) (rest : B → List ℕ) (bytes : List ℕ) (r : Result A Flaw) (f : A → Result B Flaw) → Within first bytes r → ((x : A) → Within rest (first x) (f x))
    → Within rest bytes (r >>= f)
then_ first rest bytes (Ok x) f w g = longer rest (first x) bytes (f x) w (g x)
then_ first rest bytes (Err flaw) f w g = w

abbrev snd : {A : Type 0} → A × List ℕ → List ℕ
snd x = x.1

abbrev VarintWithin : List ℕ → Option (ℕ × List ℕ) → Type 0
VarintWithin bytes None = Unit {0}
VarintWithin bytes (Some x) = length x.1 < length bytes

above_within : (b low : ℕ) (bs : List ℕ) (r : Option (ℕ × List ℕ)) → VarintWithin bs r → VarintWithin (b ∷ bs) (with_lowest_group low r)
above_within b low bs None w = tt
above_within b low bs (Some x) w = omega arith

varint_choice : (bytes : List ℕ) (c : Bool) (x y : Option (ℕ × List ℕ)) → VarintWithin bytes x → VarintWithin bytes y → VarintWithin bytes (cond c x y)
varint_choice bytes true x y f g = f
varint_choice bytes false x y f g = g

varint_within : (bytes : List ℕ) → VarintWithin bytes (varint_at bytes)
varint_within [] = tt
varint_within (b ∷ bs) = varint_choice (b ∷ bs) (nat_lt b 128) _ _ (omega arith) (above_within b (b - 128) bs (varint_at bs) (varint_within bs))

of_64_bits_within : (bytes : List ℕ) (r : Option (ℕ × List ℕ)) → VarintWithin bytes r → Within snd bytes (of_64_bits bytes r)
of_64_bits_within bytes None w = omega arith
of_64_bits_within bytes (Some x) w = either snd bytes (nat_lt x.0 (2 ^ 64)) (Ok (x.0, x.1)) (bad_at bytes) (omega arith) (omega arith)

pub number_within : (bytes : List ℕ) → Within snd bytes (number_at bytes)
number_within bytes = of_64_bits_within bytes (varint_at bytes) (varint_within bytes)

pub whole_within : (bytes : List ℕ) → Within snd bytes (whole_at bytes)
whole_within bytes = then_ snd snd bytes (number_at bytes) _ (number_within bytes) (λ x. omega arith)

pub bytes_within : (n : ℕ) (bytes : List ℕ) → Within snd bytes (bytes_at n bytes)
bytes_within n bytes = let d : length (drop n bytes) ≡ length bytes - n = length-drop n bytes in either snd bytes (nat_le n (length bytes)) (Ok (take n bytes, drop n bytes)) (Err Short) (omega arith) (omega arith)

pub binary_within : (bytes : List ℕ) → Within snd bytes (binary_at bytes)
binary_within bytes = then_ snd snd bytes (number_at bytes) _ (number_within bytes) (λ x. bytes_within x.0 x.1)

-- a value that is tested has the place of its first byte
tested : {A B : Type 0} (bytes : List ℕ) (r : Front A) (test : A → Bool) (f : A → B) → Within snd bytes r → Within snd bytes (r >>= λ x. cond (test x.0) (Ok (f x.0, x.1)) (bad_at bytes))
tested bytes (Ok x) test f w = either snd bytes (test x.0) (Ok (f x.0, x.1)) (bad_at bytes) w (omega arith)
tested bytes (Err flaw) test f w = w

pub id_within : (bytes : List ℕ) → Within snd bytes (id_at bytes)
id_within bytes = tested bytes (whole_at bytes) is_id (λ id. id) (whole_within bytes)

pub count_within : (bytes : List ℕ) → Within snd bytes (count_at bytes)
count_within bytes = tested bytes (number_at bytes) (λ n. nat_lt n (2 ^ 32)) (λ n. n) (number_within bytes)

-- a byte more in front
one_more : {A : Type 0} (rest : A → List ℕ) (b : ℕ) (bs : List ℕ) (r : Result A Flaw) → Within rest bs r → Within rest (b ∷ bs) r
one_more rest b bs r w = longer rest bs (b ∷ bs) r (omega arith) w

pub field_within : (last : ℤ) (bytes : List ℕ) → Within snd bytes (field_at last bytes)
field_within last [] = omega arith
field_within last (b ∷ bs) =
    either snd (b ∷ bs) (b == 0) _ _ (omega arith)
    (either snd (b ∷ bs) (is_kind (b % 16)) _ _
    (either snd (b ∷ bs) (b / 16 == 0) _ _
    (one_more snd b bs _ (then_ snd snd bs (id_at bs) _ (id_within bs) (λ x. omega arith)))
    (either snd (b ∷ bs) (is_id (last +ℤ pos (b / 16))) _ _ (omega arith) (omega arith)))
    (omega arith))

pub list_within : (bytes : List ℕ) → Within snd bytes (list_at bytes)
list_within [] = omega arith
list_within (b ∷ bs) =
    either snd (b ∷ bs) (is_kind (b % 16) || b == 0) _ _
    (either snd (b ∷ bs) (nat_lt (b / 16) 15) _ _ (omega arith) (one_more snd b bs _ (then_ snd snd bs (count_at bs) _ (count_within bs) (λ x. omega arith))))
    (omega arith)

-- passing over
abbrev StaysWithin : (List ℕ → Rest) → Type 0
StaysWithin pass = (bytes : List ℕ) → Within (λ rest. rest) bytes (pass bytes)

rest_of_within : {A : Type 0} (bytes : List ℕ) (front : Front A) → Within snd bytes front → Within (λ rest. rest) bytes (rest_of front)
rest_of_within bytes front w = then_ snd (λ rest. rest) bytes front _ w (λ x. omega arith)

each_within : (pass : List ℕ → Rest) → StaysWithin pass → (n : ℕ) → StaysWithin (each pass n)
each_within pass w zero bytes = omega arith
each_within pass w (suc n) bytes = then_ (λ rest. rest) (λ rest. rest) bytes (pass bytes) (each pass n) (w bytes) (each_within pass w n)

module _ (pass : Kind → List ℕ → Rest) (w : (kind : Kind) → StaysWithin (pass kind)) where
  list_passed_within : StaysWithin (list_passed pass)
  list_passed_within bytes =
      then_ snd (λ rest. rest) bytes (list_at bytes) _ (list_within bytes) (λ x. each_within (pass (kind_numbered x.0.kind)) (w (kind_numbered x.0.kind)) x.0.count x.1)

  entry_within : (key value : Kind) → StaysWithin (entry_passed pass key value)
  entry_within key value bytes = then_ (λ rest. rest) (λ rest. rest) bytes (pass key bytes) (pass value) (w key bytes) (w value)

  entries_within : (n : ℕ) → StaysWithin (entries_passed pass n)
  entries_within zero bytes = omega arith
  entries_within (suc n) [] = omega arith
  entries_within (suc n) (b ∷ bs) =
      either (λ rest. rest) (b ∷ bs) (is_kind (b / 16) && is_kind (b % 16)) _ _
      (one_more (λ rest. rest) b bs _ (each_within (entry_passed pass (kind_numbered (b / 16)) (kind_numbered (b % 16))) (entry_within (kind_numbered (b / 16)) (kind_numbered (b % 16))) (suc n) bs))
      (omega arith)

  map_passed_within : StaysWithin (map_passed pass)
  map_passed_within bytes = then_ snd (λ rest. rest) bytes (count_at bytes) _ (count_within bytes) (λ x. entries_within x.0 x.1)

  value_within : (kind : Kind) → StaysWithin (value_passed pass kind)
  value_within kinds.Flag bytes = omega arith
  value_within kinds.Byte bytes = w kinds.Byte bytes
  value_within kinds.Whole bytes = w kinds.Whole bytes
  value_within kinds.Double bytes = w kinds.Double bytes
  value_within kinds.Binary bytes = w kinds.Binary bytes
  value_within kinds.List bytes = w kinds.List bytes
  value_within kinds.Map bytes = w kinds.Map bytes
  value_within kinds.Struct bytes = w kinds.Struct bytes

  field_passed_within : (go_on : ℤ → List ℕ → Rest) → ((id : ℤ) → StaysWithin (go_on id)) → (field : Field) → StaysWithin (field_passed pass go_on field)
  field_passed_within go_on g End bytes = omega arith
  field_passed_within go_on g (Next id kind) bytes = then_ (λ rest. rest) (λ rest. rest) bytes (value_passed pass (kind_numbered kind) bytes) (go_on id) (value_within (kind_numbered kind) bytes) (g id)

  fields_within : (most : ℕ) (last : ℤ) → StaysWithin (fields_passed pass most last)
  fields_within zero last bytes = omega arith
  fields_within (suc most) last bytes =
      then_ snd (λ rest. rest) bytes (field_at last bytes) _ (field_within last bytes) (λ x. field_passed_within (fields_passed pass most) (fields_within most) x.0 x.1)

too_deep_within : StaysWithin too_deep
too_deep_within [] = omega arith
too_deep_within (b ∷ bs) = omega arith

pub element_within : (levels : ℕ) (kind : Kind) → StaysWithin (element_passed levels kind)
element_within levels kinds.Flag bytes = rest_of_within bytes (bytes_at 1 bytes) (bytes_within 1 bytes)
element_within levels kinds.Byte bytes = rest_of_within bytes (bytes_at 1 bytes) (bytes_within 1 bytes)
element_within levels kinds.Whole bytes = rest_of_within bytes (number_at bytes) (number_within bytes)
element_within levels kinds.Double bytes = rest_of_within bytes (bytes_at 8 bytes) (bytes_within 8 bytes)
element_within levels kinds.Binary bytes = rest_of_within bytes (binary_at bytes) (binary_within bytes)
element_within zero kinds.List bytes = too_deep_within bytes
element_within zero kinds.Map bytes = too_deep_within bytes
element_within zero kinds.Struct bytes = too_deep_within bytes
element_within (suc levels) kinds.List bytes = list_passed_within (element_passed levels) (element_within levels) bytes
element_within (suc levels) kinds.Map bytes = map_passed_within (element_passed levels) (element_within levels) bytes
element_within (suc levels) kinds.Struct bytes = fields_within (element_passed levels) (element_within levels) (length bytes) (pos 0) bytes

pub passed_within : (kind : ℕ) → StaysWithin (passed_at kind)
passed_within kind bytes =
    either (λ rest. rest) bytes (is_kind kind) _ _ (value_within (element_passed 32) (element_within 32) (kind_numbered kind) bytes) (omega arith)
