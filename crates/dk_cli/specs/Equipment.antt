-- What a command works with.
use Rattle.std.specs.Prelude.{◌≡◌, vec_len}
use Rattle.dk_engine.specs.declared.engine.Engine.{Engine}

-- The engine has the equipment that it had: the same store and the same handlers, whatever they hold by now, as many spare handlers, and the same limits.
pub record KeepsEquipment {I J K : Type 0} {S : I → Type 0} {H : J → Type 0} {P : K → Type 0} (old new : Engine I J K S H P) : Type 0 where
  pub store : new.store.vtable ≡ old.store.vtable
  pub json : new.json.vtable ≡ old.json.vtable
  pub parquet : new.parquet.vtable ≡ old.parquet.vtable
  pub spares : vec_len new.spares ≡ vec_len old.spares
  pub limits : new.limits ≡ old.limits
