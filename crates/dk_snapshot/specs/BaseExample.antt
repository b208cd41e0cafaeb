-- What checkpoints are read as, and how they are refused, row by row.
use Rattle.std.specs.Prelude.{ℕ, ℤ, ◌<◌, ◌≤◌, pos, true, List, [], ◌∷◌, ◌++◌, length, string_bytes, String, codes}
use Rattle.std.specs.Global.{Global}
use Rattle.std.specs.Fmt.{signed_decimal}
use Rattle.dk_store.specs.Told.{Told, Made}
use Rattle.dk_pqmodel.specs.Faults.{IsCompressed, IsUnread}
use Rattle.dk_lawful.specs.CheckpointExample.{mark_text_1, whole_text, whole_actions, naming_text, unmarked_text, marked_twice_text, misnaming_text}
use Rattle.dk_lawful.specs.CheckpointSchema.{read_fields}
use Rattle.dk_lawful.specs.MoreExamples.{side_name}
use Rattle.dk_lawful.specs.declared.segment.CheckpointRef.TheVariants.{Classic, Parts, V2}
use Rattle.dk_engine.specs.declared.limits.Which.TheVariants.{Object}
use Rattle.dk_engine.specs.declared.refusal.Refusal.{Refusal}
use Rattle.dk_engine.specs.declared.refusal.Refusal.TheVariants.{Limit, Missing, Damaged, Unsupported}
use Rattle.dk_snapshot.specs.Bases.{BaseActions, BaseRefused}
use Rattle.dk_snapshot.specs.OldestExample.{classic_1, part_1, part_2, v2_1}
use Rattle.dk_snapshot.specs.Sidecars.{sidecar_path}

-- one object stands
abbrev pub alone : List ℕ → List ℕ → List Told
alone path bytes = Made path bytes (pos 1) ∷ []

-- a checkpoint of the form V2 in JSON, at whose path this text stands
abbrev pub TextIsRefused : List ℕ → Refusal → Type 0
TextIsRefused text refusal = (limit : ℕ) → length text ≤ limit → BaseRefused (alone v2_1 text) limit (V2 1 v2_1 true) refusal

-- it is read, where it says its version and names no sidecar
abbrev pub WholeIsRead : Type 0
WholeIsRead = (limit : ℕ) → length whole_text ≤ limit → BaseActions (alone v2_1 whole_text) limit (V2 1 v2_1 true) whole_actions

-- nothing stands there
abbrev pub AbsentIsMissing : Type 0
AbsentIsMissing = (limit : ℕ) → BaseRefused [] limit (V2 1 v2_1 true) (Missing v2_1)

-- it is over the limit, whatever it says
abbrev pub GreatIsOver : Type 0
GreatIsOver = (limit : ℕ) (text : List ℕ) → limit < length text → BaseRefused (alone v2_1 text) limit (V2 1 v2_1 true) (Limit Object (length text))

-- a line of it means nothing
abbrev pub bad_text : List ℕ
bad_text = mark_text_1 ++ codes "{"

abbrev pub BadLineIsNamed : Type 0
BadLineIsNamed = TextIsRefused bad_text (Damaged v2_1 2)

-- it says no version, or says its version twice, or names what is no sidecar: it is damaged as a whole
abbrev pub UnmarkedIsDamaged : Type 0
UnmarkedIsDamaged = TextIsRefused unmarked_text (Damaged v2_1 0)

abbrev pub MarkedTwiceIsDamaged : Type 0
MarkedTwiceIsDamaged = TextIsRefused marked_twice_text (Damaged v2_1 0)

abbrev pub MisnamingIsDamaged : Type 0
MisnamingIsDamaged = TextIsRefused misnaming_text (Damaged v2_1 0)

-- the sidecar that it names isn't there
abbrev pub LackingSidecarIsMissing : Type 0
LackingSidecarIsMissing = TextIsRefused naming_text (Missing (sidecar_path side_name))

-- a classic one that is no Parquet file
abbrev pub TextForFileIsDamaged : Type 0
TextForFileIsDamaged = (limit : ℕ) → BaseRefused (alone classic_1 []) limit (Classic 1 classic_1) (Damaged classic_1 0)

-- one that is compressed, or has an encoding that isn't read, is refused by its name
abbrev pub CodecIsNamed : Type 0
CodecIsNamed = (limit : ℕ) (bytes : List ℕ) (column : String Global) → length bytes ≤ limit → IsCompressed read_fields bytes (string_bytes column) (pos 1)
    → BaseRefused (alone classic_1 bytes) limit (Classic 1 classic_1) (Unsupported (codes "SNAPPY"))

abbrev pub EncodingIsNamed : Type 0
EncodingIsNamed = (limit : ℕ) (bytes : List ℕ) (column : String Global) (code : ℤ) → length bytes ≤ limit → IsUnread read_fields bytes (string_bytes column) code
    → BaseRefused (alone classic_1 bytes) limit (Classic 1 classic_1) (Unsupported (codes "ENCODING_" ++ signed_decimal code))

-- of two parts the first is over the limit, and the second is absent: the first is named
abbrev pub EarlierPartIsFirst : Type 0
EarlierPartIsFirst = (limit : ℕ) (bytes : List ℕ) → limit < length bytes → BaseRefused (alone part_1 bytes) limit (Parts 1 2 (part_1 ∷ part_2 ∷ [])) (Limit Object (length bytes))
