-- What the pages of a chunk hold: the triples of a column (Apache Parquet, "Data Pages", "Encodings").
use Rattle.std.specs.Prelude.{◌≡◌, ◌≤◌, ◌<◌, ◌+◌, ◌*◌, ◌^◌, ◌⊎◌, ◌↔◌, ℕ, Bool, IsTrue, ℤ, pos, Option, Some, None, List, [], ◌∷◌, ◌++◌, length, map, filter_map, replicate, is_some, slice_get, option_and_then, All}
use Rattle.std.specs.Str.{is_utf8}
use Rattle.dk_grammar.specs.Structs.{FieldValues, last_under}
use Rattle.dk_grammar.specs.PageHeaders.{Part, numbers_in, inner_under, SpellsHeader}
use Rattle.dk_grammar.specs.Plain.{Plain, IsPlain, plain_values, bit_of, AreFlags, little}
use Rattle.dk_grammar.specs.Plain as plain
use Rattle.dk_grammar.specs.Runs.{AreFirst}
use Rattle.dk_pqmodel.specs.Shape.{Leaf, flag, int32, int64, chars}
use Rattle.dk_pqmodel.specs.Datum as cell
use Rattle.dk_pqmodel.specs.Datum.{Value, Triple, Column}
use Rattle.dk_pqmodel.specs.Footer.{int32 as fits32}
use Rattle.dk_pqmodel.specs.Projection.{Path}

-- a column of the file: its path, what it holds, and its greatest levels
pub record ColumnAt : Type 0 where
  pub path : Path
  pub kind : Leaf
  pub rep : ℕ
  pub def : ℕ

-- the number of a kind's physical type
abbrev pub physical_type : Leaf → ℤ
physical_type flag = pos 0
physical_type int32 = pos 1
physical_type int64 = pos 2
physical_type chars = pos 6

-- ---- levels

-- the least number of binary digits that has room for the greatest level
abbrev pub IsWidth : ℕ → ℕ → Type 0
IsWidth greatest width = (greatest < 2 ^ width) × (2 ^ width ≤ 2 * greatest + 1)

-- Runs begin with the levels. What bytes stand behind the runs is free.
pub record AreLevels (greatest : ℕ) (levels bytes : List ℕ) : Type 0 where
  pub width : ℕ
  pub digits : IsWidth greatest width
  pub runs : List ℕ
  pub over : List ℕ
  pub whole : bytes ≡ runs ++ over
  pub first : AreFirst width (length levels) levels runs

-- where the greatest level is 0 all are 0, whatever bytes stand there
abbrev pub HoldLevels : ℕ → List ℕ → List ℕ → Type 0
HoldLevels greatest levels bytes = ((greatest ≡ 0) × (levels ≡ replicate (length levels) 0)) ⊎ ((0 < greatest) × AreLevels greatest levels bytes)

-- in a data page of the first version: behind their length, or left out where the greatest level is 0
abbrev pub IsSized : ℕ → List ℕ → List ℕ → Type 0
IsSized greatest bytes runs = ((greatest ≡ 0) × (bytes ≡ []) × (runs ≡ [])) ⊎ ((0 < greatest) × (length runs < 2 ^ 32) × (bytes ≡ little 4 (length runs) ++ runs))

-- a level's encoding is a number of 32 bits: RLE, 3, and free where the greatest level is 0
abbrev pub IsLevelCode : ℕ → Option ℤ → Type 0
IsLevelCode greatest code = (z : ℤ) × (option_and_then fits32 code ≡ Some z) × ((greatest ≡ 0) ⊎ (z ≡ pos 3))

-- ---- values

-- A plain value of the kind is this value. A text is UTF-8.
abbrev pub IsPlainOf : Leaf → Plain → Value → Type 0
IsPlainOf int32 (plain.int32 z) (cell.int y) = y ≡ z
IsPlainOf int64 (plain.int64 z) (cell.int y) = y ≡ z
IsPlainOf chars (plain.chars text) (cell.chars t) = (t ≡ text) × IsTrue (is_utf8 text)
IsPlainOf kind other value = ⊥

abbrev pub ArePlainOf : Leaf → List Plain → List Value → Type 0
ArePlainOf kind [] [] = Unit {0}
ArePlainOf kind (p ∷ ps) (v ∷ vs) = IsPlain p × IsPlainOf kind p v × ArePlainOf kind ps vs
ArePlainOf kind ps vs = ⊥

-- PLAIN, 0: one value behind another, flags bit by bit. What bytes stand behind them is free.
abbrev pub InPlain : Leaf → List Value → List ℕ → Type 0
InPlain flag values bytes = (flags : List Bool) × (front : List ℕ) × (over : List ℕ) × (bytes ≡ front ++ over) × AreFlags flags front × (values ≡ map cell.flag flags)
InPlain kind values bytes = (plains : List Plain) × (over : List ℕ) × (bytes ≡ plain_values plains ++ over) × ArePlainOf kind plains values

-- RLE, 3, for flags alone: runs of width 1 behind their length
abbrev pub InRuns : Leaf → List Value → List ℕ → Type 0
InRuns flag values bytes =
    (flags : List Bool) × (runs : List ℕ) × (over : List ℕ) × (stated : List ℕ) × (length stated < 2 ^ 32) × (bytes ≡ little 4 (length stated) ++ (stated ++ over))
    × (spare : List ℕ) × (stated ≡ runs ++ spare) × AreFirst 1 (length flags) (map bit_of flags) runs × (values ≡ map cell.flag flags)
InRuns kind values bytes = ⊥

-- each value is the dictionary's at the index
abbrev pub AreAtIndices : List Value → List ℕ → List Value → Type 0
AreAtIndices dictionary indices values = map (λ index. slice_get dictionary index) indices ≡ map Some values

-- PLAIN_DICTIONARY, 2, and RLE_DICTIONARY, 8: a byte with the width, and runs of places in the dictionary. What bytes stand behind them
-- is free.
abbrev pub BehindWidth : List Value → List Value → List ℕ → Type 0
BehindWidth dictionary values bytes =
    (width : ℕ) × (runs : List ℕ) × (over : List ℕ) × (indices : List ℕ) × (width ≤ 32) × (bytes ≡ width ∷ (runs ++ over)) × AreFirst width (length indices) indices runs
    × AreAtIndices dictionary indices values

-- Where no value is meant, the byte may be left out.
abbrev pub ByIndices : List Value → List Value → List ℕ → Type 0
ByIndices dictionary values bytes = ((values ≡ []) × (bytes ≡ [])) ⊎ BehindWidth dictionary values bytes

abbrev pub FromDictionary : Leaf → Option (List Value) → List Value → List ℕ → Type 0
FromDictionary flag dictionary values bytes = ⊥
FromDictionary kind None values bytes = ⊥
FromDictionary kind (Some entries) values bytes = ByIndices entries values bytes

-- the values of a data page, by the code of their encoding
abbrev pub HoldValues : ColumnAt → Option (List Value) → ℤ → List Value → List ℕ → Type 0
HoldValues column dictionary code values bytes =
    ((code ≡ pos 0) × InPlain column.kind values bytes) ⊎ ((code ≡ pos 3) × InRuns column.kind values bytes)
    ⊎ (((code ≡ pos 2) ⊎ (code ≡ pos 8)) × FromDictionary column.kind dictionary values bytes)

-- a triple has a value exactly where its definition level is the greatest
abbrev pub IsFull : ℕ → Triple → Type 0
IsFull greatest e = e.definition ≤ greatest × (IsTrue (is_some e.value) ↔ (e.definition ≡ greatest))

abbrev pub AreFull : ColumnAt → Column → Type 0
AreFull column triples = All (IsFull column.def) triples × All (λ e. e.repetition ≤ column.rep) triples

-- ---- pages

-- the last number of an id in a header, and in an inner header
abbrev pub Says : FieldValues Part → ℤ → ℤ → Type 0
Says parts id z = last_under id (numbers_in parts) ≡ Some z

abbrev pub SaysInside : FieldValues Part → ℤ → ℤ → ℤ → Type 0
SaysInside parts inner id z = last_under id (inner_under inner parts) ≡ Some z

-- A header and a body of the size that field 3 says. The type is field 1.
pub record IsPage (type : ℤ) (parts : FieldValues Part) (body bytes : List ℕ) : Type 0 where
  pub header : List ℕ
  pub whole : bytes ≡ header ++ body
  pub spelled : SpellsHeader header parts
  pub kind : Says parts (pos 1) type
  pub size : Says parts (pos 3) (pos (length body))
  pub fits : length body < 2 ^ 31

-- levels and values, joined in triples
pub record HoldTriples (column : ColumnAt) (dictionary : Option (List Value)) (code : ℤ) (rep def values : List ℕ) (triples : Column) : Type 0 where
  pub repetitions : HoldLevels column.rep (map (λ e. e.repetition) triples) rep
  pub definitions : HoldLevels column.def (map (λ e. e.definition) triples) def
  pub full : AreFull column triples
  pub held : HoldValues column dictionary code (filter_map (λ e. e.value) triples) values

-- A data page of the first version, type 0: repetition levels, definition levels, values. Its inner header is field 5.
pub record IsDataV1 (column : ColumnAt) (dictionary : Option (List Value)) (bytes : List ℕ) (triples : Column) : Type 0 where
  pub parts : FieldValues Part
  pub body : List ℕ
  pub page : IsPage (pos 0) parts body bytes
  pub count : SaysInside parts (pos 5) (pos 1) (pos (length triples))
  pub fits : length triples < 2 ^ 31
  pub code : ℤ
  pub encoding : SaysInside parts (pos 5) (pos 2) code
  pub def_code : IsLevelCode column.def (last_under (pos 3) (inner_under (pos 5) parts))
  pub rep_code : IsLevelCode column.rep (last_under (pos 4) (inner_under (pos 5) parts))
  pub rep_part : List ℕ
  pub def_part : List ℕ
  pub values : List ℕ
  pub split : body ≡ rep_part ++ (def_part ++ values)
  pub rep : List ℕ
  pub def : List ℕ
  pub rep_sized : IsSized column.rep rep_part rep
  pub def_sized : IsSized column.def def_part def
  pub triples_held : HoldTriples column dictionary code rep def values triples

-- A data page of the second version, type 3: the same parts, whose lengths stand in the inner header, field 8.
pub record IsDataV2 (column : ColumnAt) (dictionary : Option (List Value)) (bytes : List ℕ) (triples : Column) : Type 0 where
  pub parts : FieldValues Part
  pub body : List ℕ
  pub page : IsPage (pos 3) parts body bytes
  pub count : SaysInside parts (pos 8) (pos 1) (pos (length triples))
  pub fits : length triples < 2 ^ 31
  pub code : ℤ
  pub encoding : SaysInside parts (pos 8) (pos 4) code
  pub rep : List ℕ
  pub def : List ℕ
  pub values : List ℕ
  pub split : body ≡ rep ++ (def ++ values)
  pub def_size : SaysInside parts (pos 8) (pos 5) (pos (length def))
  pub rep_size : SaysInside parts (pos 8) (pos 6) (pos (length rep))
  pub triples_held : HoldTriples column dictionary code rep def values triples

abbrev pub IsData : ColumnAt → Option (List Value) → List ℕ → Column → Type 0
IsData column dictionary bytes triples = IsDataV1 column dictionary bytes triples ⊎ IsDataV2 column dictionary bytes triples

-- A dictionary page, type 2: exactly its entries, in the encoding PLAIN. Its inner header is field 7.
pub record IsDictionary (kind : Leaf) (bytes : List ℕ) (entries : List Value) : Type 0 where
  pub parts : FieldValues Part
  pub body : List ℕ
  pub page : IsPage (pos 2) parts body bytes
  pub count : SaysInside parts (pos 7) (pos 1) (pos (length entries))
  pub fits : length entries < 2 ^ 31
  pub code : ℤ
  pub encoding : SaysInside parts (pos 7) (pos 2) code
  pub coded : (code ≡ pos 0) ⊎ (code ≡ pos 2)
  pub plains : List Plain
  pub whole : body ≡ plain_values plains
  pub same : ArePlainOf kind plains entries

-- data pages one behind another, with their triples
abbrev pub AreData : ColumnAt → Option (List Value) → List (List ℕ × Column) → Type 0
AreData column dictionary [] = Unit {0}
AreData column dictionary (x ∷ xs) = IsData column dictionary x.0 x.1 × AreData column dictionary xs

-- a dictionary page comes first, if there is one
abbrev pub IsFirst : Leaf → Option (List Value) → List ℕ → Type 0
IsFirst kind None bytes = bytes ≡ []
IsFirst kind (Some entries) bytes = IsDictionary kind bytes entries
