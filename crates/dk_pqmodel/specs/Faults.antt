-- Which refusal is answered of a file, and where it is read.
use Rattle.std.specs.Prelude.{◌≡◌, ⊤, ℕ, ℤ, Some, None, List, string_bytes}
use Rattle.dk_pqmodel.specs.Shape.{Fields}
use Rattle.dk_pqmodel.specs.Footer.{Footer}
use Rattle.dk_pqmodel.specs.FooterBytes.{IsFramed, SpellsFooter, HasFooter}
use Rattle.dk_pqmodel.specs.FilePages.{ColumnAt}
use Rattle.dk_pqmodel.specs.Projection.{Path, projection, first_misfit, dotted}
use Rattle.dk_pqmodel.specs.FileMeans.{columns_of}
use Rattle.dk_pqmodel.specs.declared.fault.PqFault.{PqFault}
use Rattle.dk_pqmodel.specs.declared.fault.PqFault.TheVariants.{NotParquet, Shape, Compressed, Encoding, Broken, OutOfMemory}
use Rattle.dk_pqmodel.specs.Scans.{first_compressed, first_unread}

-- the columns that are read of the file
abbrev pub columns_read : Fields → Footer → List ColumnAt
columns_read wanted footer = columns_of (projection wanted footer.fields) 0 0

-- the magic or the footer's length doesn't fit
abbrev pub NotFramed : List ℕ → Type 0
NotFramed bytes = (before : List ℕ) → (part : List ℕ) → IsFramed bytes before part → ⊥

-- they do, and no footer is spelled there
abbrev pub LacksFooter : List ℕ → Type 0
LacksFooter bytes = ((before : List ℕ) × (part : List ℕ) × IsFramed bytes before part) × ((footer : Footer) → HasFooter bytes footer → ⊥)

-- The wanted leaf on this path is the first that has another type or structure in the file.
pub record DiffersAt (wanted : Fields) (bytes : List ℕ) (column : List ℕ) : Type 0 where
  pub footer : Footer
  pub has : HasFooter bytes footer
  pub path : Path
  pub first : first_misfit wanted footer.fields ≡ Some path
  pub named : column ≡ dotted path

-- None differs, and the first wanted leaf with a codec other than UNCOMPRESSED is on this path. Its first one is this.
pub record IsCompressed (wanted : Fields) (bytes : List ℕ) (column : List ℕ) (codec : ℤ) : Type 0 where
  pub footer : Footer
  pub has : HasFooter bytes footer
  pub fitting : first_misfit wanted footer.fields ≡ None
  pub path : Path
  pub first : first_compressed (columns_read wanted footer) footer.groups ≡ Some (path, codec)
  pub named : column ≡ dotted path

-- None differs, no wanted chunk is compressed, and the first wanted leaf with an encoding that isn't read is on this path. Its first one is this.
pub record IsUnread (wanted : Fields) (bytes : List ℕ) (column : List ℕ) (code : ℤ) : Type 0 where
  pub before : List ℕ
  pub part : List ℕ
  pub framed : IsFramed bytes before part
  pub footer : Footer
  pub spelled : SpellsFooter part footer
  pub fitting : first_misfit wanted footer.fields ≡ None
  pub plain : first_compressed (columns_read wanted footer) footer.groups ≡ None
  pub path : Path
  pub first : first_unread before (columns_read wanted footer) footer.groups ≡ Some (path, code)
  pub named : column ≡ dotted path

-- None of all that stands against reading the file.
pub record IsUnopposed (wanted : Fields) (bytes before : List ℕ) (footer : Footer) : Type 0 where
  pub part : List ℕ
  pub framed : IsFramed bytes before part
  pub spelled : SpellsFooter part footer
  pub fitting : first_misfit wanted footer.fields ≡ None
  pub plain : first_compressed (columns_read wanted footer) footer.groups ≡ None
  pub read : first_unread before (columns_read wanted footer) footer.groups ≡ None

-- the refusals that are found before a value is read
abbrev pub IsRefused : Fields → List ℕ → PqFault → Type 0
IsRefused wanted bytes NotParquet = NotFramed bytes
IsRefused wanted bytes (Shape column) = DiffersAt wanted bytes (string_bytes column)
IsRefused wanted bytes (Compressed column codec) = IsCompressed wanted bytes (string_bytes column) codec
IsRefused wanted bytes (Encoding column code) = IsUnread wanted bytes (string_bytes column) code
IsRefused wanted bytes Broken = LacksFooter bytes
IsRefused wanted bytes OutOfMemory = ⊤
