-- What is answered before a value is read.
use Rattle.std.specs.Prelude.{◌≡◌, ⊤, ℕ, Some, None, Result, Ok, Err, List, map, string_bytes, Vec}
use Rattle.std.specs.declared.alloc.Global.{Global}
use Rattle.dk_pqmodel.specs.Shape.{Fields}
use Rattle.dk_pqmodel.specs.FileSchema.{FileNodes}
use Rattle.dk_pqmodel.specs.Footer.{RowGroup}
use Rattle.dk_pqmodel.specs.FilePages.{ColumnAt}
use Rattle.dk_pqmodel.specs.Projection.{Path, projection, first_misfit, dotted}
use Rattle.dk_pqmodel.specs.declared.fault.PqFault.{PqFault}
use Rattle.dk_pqmodel.specs.declared.fault.PqFault.TheVariants.{Shape, Compressed, Encoding, OutOfMemory}
use Rattle.dk_pqmeta.specs.View.{footer_view}
use Rattle.dk_pqread.specs.ColumnView.{column_at}
use Rattle.dk_pqmodel.specs.Faults.{columns_read, IsUnopposed, IsRefused}
use Rattle.dk_pqread.specs.PlanView.{plans_of}
use Rattle.dk_pqmodel.specs.Scans.{first_compressed, first_unread}
use Rattle.dk_pqread.specs.declared.examine.Examined.{Examined}
use Rattle.dk_pqread.specs.declared.plan.Plan.{Plan}

-- what is read for the wanted fields, or the first leaf that differs
abbrev pub LaysFile : Fields → FileNodes → Result (Vec Plan Global) PqFault → Type 0
LaysFile wanted fields (Ok plans) = (first_misfit wanted fields ≡ None) × (plans_of plans.items ≡ projection wanted fields)
LaysFile wanted fields (Err (Shape column)) = (path : Path) × (first_misfit wanted fields ≡ Some path) × (string_bytes column ≡ dotted path)
LaysFile wanted fields (Err OutOfMemory) = ⊤
LaysFile wanted fields (Err fault) = ⊥

-- nothing stands against the columns, or a codec, or, where there is none, an encoding
abbrev pub Scans : List ℕ → List ColumnAt → List RowGroup → Result (Unit {0}) PqFault → Type 0
Scans before columns groups (Ok _) = (first_compressed columns groups ≡ None) × (first_unread before columns groups ≡ None)
Scans before columns groups (Err (Compressed column codec)) = (path : Path) × (first_compressed columns groups ≡ Some (path, codec)) × (string_bytes column ≡ dotted path)
Scans before columns groups (Err (Encoding column code)) =
    (first_compressed columns groups ≡ None) × ((path : Path) × (first_unread before columns groups ≡ Some (path, code)) × (string_bytes column ≡ dotted path))
Scans before columns groups (Err OutOfMemory) = ⊤
Scans before columns groups (Err fault) = ⊥

-- what is read of the file, where nothing stands against it; or what does
abbrev pub Examines : Fields → List ℕ → Result Examined PqFault → Type 0
Examines wanted bytes (Ok x) =
    (before : List ℕ) × IsUnopposed wanted bytes before (footer_view x.footer) × (plans_of x.plans.items ≡ projection wanted (footer_view x.footer).fields)
    × (map column_at x.columns.items ≡ columns_read wanted (footer_view x.footer))
Examines wanted bytes (Err fault) = IsRefused wanted bytes fault
