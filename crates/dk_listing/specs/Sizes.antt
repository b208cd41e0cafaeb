-- The size that a listing shows of a path.
use Rattle.std.specs.Prelude.{ℕ, Option, Some, None, List, length, map, find, option_map}
use Rattle.std.specs.Str.{bytes_eq}
use Rattle.dk_store.specs.Told.{Told, Stored, Listed}
use Rattle.dk_store.specs.Objects.{object}
use Rattle.dk_store.specs.Listing.{behind}
use Rattle.dk_store.specs.Views.{listed}
use Rattle.dk_paths.specs.Places.{log_front, staged_front}
use Rattle.dk_listing.specs.declared.catalogued.Catalogued.{Catalogued}

-- the size under a name, by the first entry that has it
abbrev pub size_of_name : List Listed → List ℕ → Option ℕ
size_of_name listing name = option_map (λ entry. entry.size) (find (λ entry. bytes_eq entry.name name) listing)

abbrev pub log_entries : Catalogued → List Listed
log_entries listing = map (λ named. listed named.entry) listing.log.items

abbrev pub staged_entries : Catalogued → List Listed
staged_entries listing = map (λ staged. listed staged.entry) listing.staged.items

-- by the text behind the front of staged commits, or else by that behind the log's own
abbrev pub size_in_log : List Listed → List Listed → List ℕ → Option (List ℕ) → Option ℕ
size_in_log log staged rest None = size_of_name log rest
size_in_log log staged rest (Some name) = size_of_name staged name

abbrev pub size_behind : List Listed → List Listed → Option (List ℕ) → Option ℕ
size_behind log staged None = None
size_behind log staged (Some rest) = size_in_log log staged rest (behind staged_front rest)

-- the listed size of the object at a path, in the log's folder or in that of staged commits
abbrev pub listed_size : Catalogued → List ℕ → Option ℕ
listed_size listing path = size_behind (log_entries listing) (staged_entries listing) (behind log_front path)

-- the size of the object that stands at a path
abbrev pub size_of_object : Option Stored → Option ℕ
size_of_object found = option_map (λ stored. length stored.bytes) found

abbrev pub stored_size : List Told → List ℕ → Option ℕ
stored_size events path = size_of_object (object events path)
