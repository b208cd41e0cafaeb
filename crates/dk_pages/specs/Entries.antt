-- The entries of a dictionary page, in the encoding PLAIN.
use Rattle.std.specs.Prelude.{◌≡◌, ℕ, zero, suc, ◌==◌, if◌then◌else◌, Option, Some, None, option_map, option_and_then, Result, Ok, Err, List, [], ◌∷◌, ◌++◌, length, ⊤}
use Rattle.dk_pqmodel.specs.declared.fault.PqFault.{PqFault}
use Rattle.dk_pqmodel.specs.declared.fault.PqFault.TheVariants.{Broken, OutOfMemory}
use Rattle.dk_pages.specs.declared.dictionary.Physical.{Physical}
use Rattle.dk_pages.specs.declared.dictionary.Physical.TheVariants.{Int32, Int64, Bytes}
use Rattle.dk_pqmodel.specs.Pages.{Page}
use Rattle.dk_pages.specs.Split.{cut, sized}

-- numbers have four and eight bytes, texts stand behind the number of their bytes
abbrev pub entry_at : Physical → List ℕ → Option (List ℕ × List ℕ)
entry_at Int32 bytes = cut 4 bytes
entry_at Int64 bytes = cut 8 bytes
entry_at Bytes bytes = sized bytes

-- so many entries, and the bytes behind them
abbrev pub entries_at : Physical → ℕ → List ℕ → Option (List (List ℕ) × List ℕ)
entries_at kind zero bytes = Some ([], bytes)
entries_at kind (suc n) bytes = option_and_then (λ x. option_map (λ more. (x.0 ∷ more.0, more.1)) (entries_at kind n x.1)) (entry_at kind bytes)

-- nothing may stand behind them
abbrev pub all_of : Option (List (List ℕ) × List ℕ) → Option (List (List ℕ))
all_of None = None
all_of (Some x) = if length x.1 == 0 then Some x.0 else None

-- the entries of a page, where its body is exactly as many as it says
abbrev pub page_entries : Physical → Page → Option (List (List ℕ))
page_entries kind page = all_of (entries_at kind page.values page.body)

abbrev pub AnswersEntries : Result (List (List ℕ)) PqFault → Option (List (List ℕ)) → Type 0
AnswersEntries (Ok entries) meaning = meaning ≡ Some entries
AnswersEntries (Err Broken) meaning = meaning ≡ None
AnswersEntries (Err OutOfMemory) meaning = ⊤
AnswersEntries (Err fault) meaning = ⊥

-- entries done, and then those that are left
abbrev pub entries_then : List (List ℕ) → Option (List (List ℕ) × List ℕ) → Option (List (List ℕ) × List ℕ)
entries_then done left = option_map (λ x. (done ++ x.0, x.1)) left
