-- What parts of a page, pages and chunks mean, and what functions that read them answer.
use Rattle.std.specs.Prelude.{◌≡◌, ◌==◌, ℕ, nat_le, ⊤, if◌then◌else◌, ◌&&◌, Option, Some, None, option_map, option_and_then, Result, Ok, Err, List, [], ◌∷◌, ◌++◌, length, replicate, count_by, Vec}
use Rattle.std.specs.declared.alloc.Global.{Global}
use Rattle.dk_grammar.specs.Runs.{AreFirst}
use Rattle.dk_hybrid.specs.declared.fault.HybridFault.{HybridFault}
use Rattle.dk_hybrid.specs.declared.fault.HybridFault.TheVariants as hybrid
use Rattle.dk_pqmodel.specs.Datum.{Value, Triple, Column}
use Rattle.dk_pqmodel.specs.FilePages.{HoldLevels}
use Rattle.dk_pqmodel.specs.declared.fault.PqFault.{PqFault}
use Rattle.dk_pqmodel.specs.declared.fault.PqFault.TheVariants.{Broken, OutOfMemory}

-- a refusal: nothing is meant, or memory was wanting
abbrev pub RefusesMeaning : {Y : Type 0} → PqFault → (Y → Type 0) → Type 0
RefusesMeaning {Y} Broken Means = (y : Y) → Means y → ⊥
RefusesMeaning OutOfMemory Means = ⊤
RefusesMeaning fault Means = ⊥

-- what is meant is found; or nothing is meant
abbrev pub Finds : {X Y : Type 0} → (X → Y) → Result X PqFault → (Y → Type 0) → Type 0
Finds view (Ok x) Means = Means (view x)
Finds view (Err fault) Means = RefusesMeaning fault Means

-- Whatever is meant has this number; or nothing is meant.
abbrev pub Tells : {Y : Type 0} → (Y → ℕ) → Result ℕ PqFault → (Y → Type 0) → Type 0
Tells {Y} number (Ok n) Means = (y : Y) → Means y → number y ≡ n
Tells number (Err fault) Means = RefusesMeaning fault Means

-- what a fault of runs is
abbrev pub fault_of : HybridFault → PqFault
fault_of hybrid.Width = Broken
fault_of hybrid.Short = Broken
fault_of hybrid.OutOfMemory = OutOfMemory

-- bytes begin with runs of so many numbers
pub record HoldRuns (width count : ℕ) (bytes numbers : List ℕ) : Type 0 where
  pub runs : List ℕ
  pub over : List ℕ
  pub whole : bytes ≡ runs ++ over
  pub first : AreFirst width count numbers runs

-- ---- levels

-- so many levels stand in the bytes
abbrev pub AreLevelsOf : ℕ → ℕ → List ℕ → List ℕ → Type 0
AreLevelsOf greatest count bytes levels = (length levels ≡ count) × HoldLevels greatest levels bytes

-- levels of a page, all 0 where none are kept
abbrev pub levels_on_page : ℕ → Option (Vec ℕ Global) → List ℕ
levels_on_page count None = replicate count 0
levels_on_page count (Some levels) = levels.items

-- how many levels are the greatest
abbrev pub full_count : ℕ → List ℕ → ℕ
full_count greatest levels = count_by (λ level. level == greatest) levels

abbrev pub triple_with : ℕ → ℕ → Option Value → Triple
triple_with r d v = record { repetition = r; definition = d; value = v }

-- a triple that has the next value
abbrev pub full_triple : ℕ → ℕ → List Value → Option (Triple × List Value)
full_triple r d [] = None
full_triple r d (v ∷ vs) = Some (triple_with r d (Some v), vs)

-- A triple of two levels, which are at most the greatest, and the values behind it. With the greatest definition level it has a value.
abbrev pub one_triple : ℕ → ℕ → ℕ → ℕ → List Value → Option (Triple × List Value)
one_triple rep def r d vs = if nat_le r rep && nat_le d def then (if d == def then full_triple r d vs else Some (triple_with r d None, vs)) else None

-- triples of levels and values, and no value is left
abbrev pub zipped : ℕ → ℕ → List ℕ → List ℕ → List Value → Option Column
zipped rep def [] [] [] = Some []
zipped rep def (r ∷ rs) (d ∷ ds) vs = option_and_then (λ x. option_map (λ es. x.0 ∷ es) (zipped rep def rs ds x.1)) (one_triple rep def r d vs)
zipped rep def rs ds vs = None

-- triples before those that are left
abbrev pub triples_then : Column → Option Column → Option Column
triples_then done left = option_map (λ more. done ++ more) left
