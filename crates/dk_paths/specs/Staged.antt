-- The names of staged commits: how each is spelled, and what a text names.
use Rattle.std.specs.Prelude.{◌≡◌, ℕ, ◌^◌, ◌<◌, ◌==◌, ◌&&◌, nat_lt, Option, Some, None, MatchOption, List, ◌++◌, length, if◌then◌else◌, codes}
use Rattle.std.specs.Str.{bytes_eq}
use Rattle.dk_paths.specs.Numbers.{version_text, id_text, digits_at, uuid_at}

-- the name of a staged commit of a version
abbrev pub staged_name : ℕ → ℕ → List ℕ
staged_name version id = version_text version ++ (codes "." ++ (id_text id ++ codes ".json"))

-- a version of 63 bits and a UUID of 128
pub record IsStaged (version id : ℕ) : Type 0 where
  pub version_small : version < 2 ^ 63
  pub id_small : id < 2 ^ 128

-- what a text says: it is the name of that staged commit, or of none
abbrev pub IsStagedNameOf : List ℕ → Option (ℕ × ℕ) → Type 0
IsStagedNameOf text found = MatchOption found
    ((version id : ℕ) → IsStaged version id → staged_name version id ≡ text → ⊥)
    (λ staged. IsStaged staged.0 staged.1 × (staged_name staged.0 staged.1 ≡ text))

-- each name that is written so is read as itself
abbrev pub IsStagedReadBack : List ℕ → Option (ℕ × ℕ) → Type 0
IsStagedReadBack text found = (version id : ℕ) → IsStaged version id → staged_name version id ≡ text → found ≡ Some (version, id)

-- a staged commit, where a text is its name and its numbers are allowed
abbrev pub if_staged : ℕ → ℕ → List ℕ → Option (ℕ × ℕ)
if_staged version id text =
    if nat_lt version (2 ^ 63) && (nat_lt id (2 ^ 128) && bytes_eq (staged_name version id) text) then Some (version, id) else None

-- the staged commit that a text names, whose numbers stand where the spelling has them
unfoldable pub staged_of : List ℕ → Option (ℕ × ℕ)
staged_of text = if length text == 62 then if_staged (digits_at 0 20 text) (uuid_at 21 text) text else None
