-- What the program says of a status that isn't Done: an answer object as one compact line of JSON.
use Rattle.std.specs.Prelude.{ℕ, ℤ, List, [], ◌∷◌, Option, Some, None, option_map, codes}
use Rattle.serde_json.specs.Data.{Data, number, unsigned, string}
use Rattle.serde_json.specs.Written.{compact_text}
use Rattle.dk_model.specs.Shown.{whole_data, object_with}
use Rattle.dk_model.specs.Kinds.{kind_name}
use Rattle.dk_cli.specs.declared.status.Status.{Status}
use Rattle.dk_cli.specs.declared.status.Status.TheVariants as statuses
use Rattle.dk_engine.specs.declared.limits.Which.{Which}
use Rattle.dk_engine.specs.declared.limits.Which.TheVariants as limits
use Rattle.dk_engine.specs.declared.refusal.Refusal.{Refusal}
use Rattle.dk_engine.specs.declared.refusal.Refusal.TheVariants as refusals

-- ---- what is said beside the name: {}, {"path":P}, {"path":P,"place":N}, {"name":N}, {"value":N,"which":W}, {"kind":K,"version":V}, {"NAME":N},
-- {"first":T}

unfoldable pub no_object : Data
no_object = object_with []

unfoldable pub path_object : List ℕ → Data
path_object path = object_with ((codes "path", Some (string path)) ∷ [])

unfoldable pub place_object : List ℕ → ℕ → Data
place_object path place = object_with ((codes "path", Some (string path)) ∷ (codes "place", Some (number (unsigned place))) ∷ [])

unfoldable pub name_object : List ℕ → Data
name_object name = object_with ((codes "name", Some (string name)) ∷ [])

unfoldable pub limit_object : ℕ → List ℕ → Data
limit_object value which = object_with ((codes "value", Some (number (unsigned value))) ∷ (codes "which", Some (string which)) ∷ [])

unfoldable pub conflict_object : ℕ → List ℕ → Data
conflict_object version kind = object_with ((codes "kind", Some (string kind)) ∷ (codes "version", Some (number (unsigned version))) ∷ [])

unfoldable pub number_object : List ℕ → ℕ → Data
number_object name n = object_with ((name, Some (number (unsigned n))) ∷ [])

unfoldable pub moment_object : ℤ → Data
moment_object first = object_with ((codes "first", Some (whole_data first)) ∷ [])

abbrev pub which_name : Which → List ℕ
which_name limits.Input = codes "Input"
which_name limits.InputLine = codes "InputLine"
which_name limits.InputLines = codes "InputLines"
which_name limits.Version = codes "Version"
which_name limits.Object = codes "Object"
which_name limits.Rows = codes "Rows"
which_name limits.Time = codes "Time"

-- ---- the objects

-- {"NAME":{..}}
unfoldable pub named_object : List ℕ → Data → Data
named_object name said = object_with ((name, Some said) ∷ [])

abbrev pub refusal_object : Refusal → Data
refusal_object refusals.Store = named_object (codes "store") no_object
refusal_object (refusals.Missing path) = named_object (codes "missing") (path_object path)
refusal_object (refusals.Unsupported name) = named_object (codes "unsupported") (name_object name)
refusal_object (refusals.Damaged path place) = named_object (codes "damaged") (place_object path place)
refusal_object (refusals.Limit which value) = named_object (codes "limit") (limit_object value (which_name which))
refusal_object refusals.OutOfMemory = named_object (codes "outOfMemory") no_object
refusal_object (refusals.Invalid rule) = named_object (codes "invalid") (number_object (codes "rule") rule)
refusal_object (refusals.NoVersion latest) = named_object (codes "noVersion") (number_object (codes "latest") latest)
refusal_object (refusals.Taken path) = named_object (codes "taken") (path_object path)
refusal_object (refusals.WinnersGone path) = named_object (codes "winnersGone") (path_object path)
refusal_object (refusals.Conflict version kind) = named_object (codes "conflict") (conflict_object version (kind_name kind))
refusal_object (refusals.TooEarly first) = named_object (codes "tooEarly") (moment_object first)
refusal_object (refusals.NothingToDo version) = named_object (codes "nothingToDo") (number_object (codes "version") version)
refusal_object (refusals.Gone path) = named_object (codes "gone") (path_object path)
refusal_object refusals.NotBegun = named_object (codes "notBegun") no_object
refusal_object (refusals.NoSpare count) = named_object (codes "noSpare") (number_object (codes "count") count)

-- the answer object of a status; none of Done
abbrev pub fault_object : Status → Option Data
fault_object statuses.Done = None
fault_object statuses.Usage = Some (named_object (codes "usage") no_object)
fault_object statuses.SinkFault = Some (named_object (codes "sink") no_object)
fault_object statuses.SourceFault = Some (named_object (codes "source") no_object)
fault_object (statuses.Refused refusal) = Some (refusal_object refusal)

-- the answer object as one compact line of JSON
abbrev pub fault_text : Status → Option (List ℕ)
fault_text status = option_map compact_text (fault_object status)
