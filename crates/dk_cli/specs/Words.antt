-- The command line.
use Rattle.std.specs.Prelude.{ℕ, ◌^◌, ◌&&◌, nat_le, nat_lt, Bool, List, [], ◌∷◌, Option, Some, None, option_map, option_and_then, length, map, string_bytes, codes, String, if◌then◌else◌}
use Rattle.std.specs.Global.{Global}
use Rattle.std.specs.Str.{bytes_eq, all_ascii_digits}
use Rattle.std.specs.Str.Parse.{digits_value}
use Rattle.dk_store.specs.Listing.{behind}
use Rattle.dk_conflicts.specs.declared.reads.Reads.{Reads}
use Rattle.dk_conflicts.specs.declared.reads.Reads.TheVariants as reads
use Rattle.dk_snapshot.specs.Opening.{usual_choice}
use Rattle.dk_cli.specs.declared.words.Command.{Command}
use Rattle.dk_cli.specs.declared.words.Command.TheVariants as commands

-- by its bytes
abbrev pub words_of : List (String Global) → List (List ℕ)
words_of words = map string_bytes words

-- ---- versions

-- from 0 to 9,223,372,036,854,775,807, in 1 to 19 decimal digits
abbrev pub is_short : List ℕ → Bool
is_short word = nat_lt 0 (length word) && nat_le (length word) 19

abbrev pub version_spelled : List ℕ → Option ℕ
version_spelled word = if (is_short word && all_ascii_digits word) && nat_lt (digits_value 10 word) (2 ^ 63) then Some (digits_value 10 word) else None

-- ---- options

-- The value of the one option that these words give: behind its name in a word of its own, or behind its name and `=` in the same word.
abbrev pub option_value : List ℕ → List ℕ → List (List ℕ) → Option (List ℕ)
option_value name joined (word ∷ []) = behind joined word
option_value name joined (word ∷ (value ∷ [])) = if bytes_eq word name then Some value else None
option_value name joined _ = None

-- ---- commands

-- the version that `show` is asked for by its options: the latest, or a given one
abbrev pub version_to_show : List (List ℕ) → Option (Option ℕ)
version_to_show [] = Some None
version_to_show (word ∷ words) = option_map Some (option_and_then version_spelled (option_value (codes "--at") (codes "--at=") (word ∷ words)))

abbrev pub show_asked : List (List ℕ) → Option Command
show_asked options = option_map (λ at. commands.Show at usual_choice) (version_to_show options)

-- what the transaction of `commit` has read, by the word for it
abbrev pub reads_named : List ℕ → Option Reads
reads_named word = if bytes_eq word (codes "nothing") then Some reads.Nothing else if bytes_eq word (codes "table") then Some reads.Table else None

abbrev pub reads_asked : List (List ℕ) → Option Reads
reads_asked [] = Some reads.Nothing
reads_asked (word ∷ words) = option_and_then reads_named (option_value (codes "--reads") (codes "--reads=") (word ∷ words))

abbrev pub commit_asked : List (List ℕ) → Option Command
commit_asked options = option_map commands.Commit (reads_asked options)

-- the command that the words ask for; none where they aren't those of one
abbrev pub command_of : List (List ℕ) → Option Command
command_of [] = None
command_of (word ∷ options) = if bytes_eq word (codes "show") then show_asked options else if bytes_eq word (codes "commit") then commit_asked options else None
