-- What reading a file answers, whatever reads it.
use Rattle.std.specs.Prelude.{ℕ, ℤ, Result, Ok, Err, List, Vec}
use Rattle.std.specs.declared.alloc.Global.{Global}
use Rattle.dk_pqmodel.specs.Shape.{Fields}
use Rattle.dk_pqmodel.specs.Datum.{Cells}
use Rattle.dk_pqmodel.specs.FooterBytes.{IsFramed}
use Rattle.dk_pqmodel.specs.FileMeans.{FileMeans}
use Rattle.dk_pqmodel.specs.RowView.{rows_of}
use Rattle.dk_pqmodel.specs.Faults.{DiffersAt, IsCompressed, IsUnread, IsRefused}
use Rattle.dk_pqmodel.specs.declared.row.Row.{Row}
use Rattle.dk_pqmodel.specs.declared.fault.PqFault.{PqFault}
use Rattle.dk_pqmodel.specs.declared.fault.PqFault.TheVariants.{Broken}

-- No rows are meant, and the file is framed, no wanted leaf differs, and none is compressed or has an encoding that isn't read.
pub record IsBroken (wanted : Fields) (bytes : List ℕ) : Type 0 where
  pub nothing : (rows : Cells) → FileMeans wanted bytes rows → ⊥
  pub framed : (before : List ℕ) × (part : List ℕ) × IsFramed bytes before part
  pub fitting : (column : List ℕ) → DiffersAt wanted bytes column → ⊥
  pub plain : (column : List ℕ) (codec : ℤ) → IsCompressed wanted bytes column codec → ⊥
  pub read : (column : List ℕ) (code : ℤ) → IsUnread wanted bytes column code → ⊥

-- The rows that the file means; or the first of the causes for which none are answered, `Broken` being the last; or want of memory.
abbrev pub Reads : Fields → List ℕ → Result (Vec Row Global) PqFault → Type 0
Reads wanted bytes (Ok rows) = FileMeans wanted bytes (rows_of rows.items)
Reads wanted bytes (Err Broken) = IsBroken wanted bytes
Reads wanted bytes (Err fault) = IsRefused wanted bytes fault
