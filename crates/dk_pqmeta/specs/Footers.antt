-- The footer of a file, by cases on the bytes, and what is answered.
use Rattle.std.specs.Prelude.{ℕ, ◌==◌, if◌then◌else◌, Option, Some, None, Result, Ok, Err, List, length}
use Rattle.dk_grammar.specs.Thrift.{Front}
use Rattle.dk_pqmodel.specs.declared.fault.PqFault.{PqFault}
use Rattle.dk_pqmodel.specs.declared.fault.PqFault.TheVariants as pq
use Rattle.dk_pqmodel.specs.Footer.{FileFields, Footer}
use Rattle.dk_pqmodel.specs.FooterBytes.{IsFramed, HasFooter}
use Rattle.dk_pqmeta.specs.Readings.{file_at}
use Rattle.dk_pqmeta.specs.View.{footer_view}
use Rattle.dk_pqmeta.specs.declared.footer.Footer as code

-- the fields of a FileMetaData, where the bytes are one and nothing stands behind it
abbrev pub whole_of : Front FileFields → Option FileFields
whole_of (Ok x) = if length x.1 == 0 then Some x.0 else None
whole_of (Err flaw) = None

abbrev pub file_in : List ℕ → Option FileFields
file_in bytes = whole_of (file_at bytes)

-- the footer that the file has; or the magic or the footer's length doesn't fit; or they do, and no footer is spelled
abbrev pub AnswersFooter : List ℕ → Result code.Footer PqFault → Type 0
AnswersFooter bytes (Ok footer) = HasFooter bytes (footer_view footer)
AnswersFooter bytes (Err pq.NotParquet) = (before part : List ℕ) → IsFramed bytes before part → ⊥
AnswersFooter bytes (Err pq.Broken) = ((before : List ℕ) × (part : List ℕ) × IsFramed bytes before part) × ((footer : Footer) → HasFooter bytes footer → ⊥)
AnswersFooter bytes (Err pq.OutOfMemory) = Unit {0}
AnswersFooter bytes (Err fault) = ⊥
