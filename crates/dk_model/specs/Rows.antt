-- Whether an action changes the rows of a table, or only where they lie (Delta Lake's PROTOCOL.md, "Add File and Remove File").
use Rattle.std.specs.Prelude.{Bool, false}
use Rattle.dk_model.specs.declared.action.Action.{Action}
use Rattle.dk_model.specs.declared.action.Action.TheVariants as action

-- an add of rows that weren't in the table before
abbrev pub adds_rows : Action → Bool
adds_rows (action.Add file) = file.data_change
adds_rows _ = false

-- a remove of rows that are in the table no more
abbrev pub removes_rows : Action → Bool
removes_rows (action.Remove file) = file.data_change
removes_rows _ = false
