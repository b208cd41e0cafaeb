-- What a box holds, for the clauses of crates that see the box in a type of another crate.
use Rattle.std.specs.declared.dyn_box.DynBox.{DynBox}

-- the table of the object's calls, and the object
abbrev pub held : {I A : Type 0} {V : I → Type 0} → DynBox I A V → (i : I) × V i
held b = (b.vtable, b.value)
