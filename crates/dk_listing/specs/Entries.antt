-- What the entries of a listing mean, by their names.
use Rattle.std.specs.Prelude.{ℕ, Option, option_map}
use Rattle.dk_store.specs.Told.{Listed}
use Rattle.dk_store.specs.Views.{listed}
use Rattle.dk_paths.specs.declared.log_name.LogName.{LogName}
use Rattle.dk_paths.specs.Names.{log_name_of}
use Rattle.dk_paths.specs.Staged.{staged_of}
use Rattle.dk_listing.specs.declared.named.Named.{Named}
use Rattle.dk_listing.specs.declared.named.Staged.{Staged}

-- an entry of the log's folder, with what its name means
abbrev pub in_log : Listed → LogName × Listed
in_log entry = (log_name_of entry.name, entry)

-- an entry of the folder of staged commits, with the version and the UUID of its name, where it is the name of a staged commit
abbrev pub in_staged : Listed → Option ((ℕ × ℕ) × Listed)
in_staged entry = option_map (λ staged. (staged, entry)) (staged_of entry.name)

-- the code's entries by their content
abbrev pub named_entry : Named → LogName × Listed
named_entry named = (named.name, listed named.entry)

abbrev pub staged_entry : Staged → (ℕ × ℕ) × Listed
staged_entry staged = ((staged.version, staged.id), listed staged.entry)
