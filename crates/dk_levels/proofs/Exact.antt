-- Rows are answered exactly where the columns are the triples of some rows, and then these.
use Rattle.std.proofs.Common.{◌≡◌, List, ap, subst, ◌∙◌, Some, None, Option, Ok, Err, Result, IfOk, IfErr}
use Rattle.dk_pqmodel.specs.Shape.{Fields}
use Rattle.dk_pqmodel.specs.Datum.{Cells, Column}
use Rattle.dk_pqmodel.specs.Fits.{AreTriplesOf}
use Rattle.dk_levels.specs.Reading.{rows_at}
use Rattle.dk_levels.specs.Solid.{AreReadable}
use Rattle.dk_levels.specs.Answers.{GivesMeant, IsBrokenOrMemory}
use Rattle.dk_pqmodel.specs.declared.fault.PqFault.{PqFault}
use Rattle.dk_pqmodel.specs.declared.fault.PqFault.TheVariants.{NotParquet, Shape, Compressed, Encoding, Broken, OutOfMemory}
use Rattle.dk_levels.proofs.Again.{rows_again}
use Rattle.dk_levels.proofs.Takes.{rows_take}

pub found : {X : Type 0} (view : X → Cells) (fs : Fields) (cs : List Column) (r : Result X PqFault) → GivesMeant view r (rows_at fs cs)
    → IfOk r (λ v. AreTriplesOf fs (view v) cs)
found view fs cs (Ok v) h = rows_take fs cs (view v) h
found view fs cs (Err e) h = tt

-- reading gives the rows whose triples the columns are
pub gives_rows : {X : Type 0} (view : X → Cells) (fs : Fields) (cs : List Column) (r : Result X PqFault) → AreReadable fs → GivesMeant view r (rows_at fs cs)
    → (rows : Cells) → AreTriplesOf fs rows cs → GivesMeant view r (Some rows)
gives_rows view fs cs r readable h rows are = subst (λ o. GivesMeant view r o) (ap (rows_at fs) are.1 ∙ rows_again fs rows readable.wide readable.solid are.0) h

pub only : {X : Type 0} (view : X → Cells) (fs : Fields) (cs : List Column) (r : Result X PqFault) → AreReadable fs → GivesMeant view r (rows_at fs cs)
    → (rows : Cells) → AreTriplesOf fs rows cs → IfOk r (λ v. view v ≡ rows)
only view fs cs (Err e) readable h rows are = tt
only view fs cs (Ok v) readable h rows are = let same : Some rows ≡ Some (view v) = gives_rows view fs cs (Ok v) readable h rows are in cc

pub broken : {X : Type 0} (view : X → Cells) (fs : Fields) (cs : List Column) (r : Result X PqFault) → AreReadable fs → GivesMeant view r (rows_at fs cs)
    → r ≡ Err Broken → (rows : Cells) → AreTriplesOf fs rows cs → ⊥
broken view fs cs r readable h b rows are =
    let no : Some rows ≡ None = subst (λ x. GivesMeant view x (Some rows)) b (gives_rows view fs cs r readable h rows are) in cc

pub faults : {X : Type 0} (view : X → Cells) (o : Option Cells) (r : Result X PqFault) → GivesMeant view r o → IfErr r IsBrokenOrMemory
faults view o (Ok v) h = tt
faults view o (Err Broken) h = tt
faults view o (Err OutOfMemory) h = tt
faults view o (Err NotParquet) h = absurd h
faults view o (Err (Shape c)) h = absurd h
faults view o (Err (Compressed c n)) h = absurd h
faults view o (Err (Encoding c n)) h = absurd h
