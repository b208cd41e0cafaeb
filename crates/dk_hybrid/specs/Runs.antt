-- Runs as the code keeps them, and what decoding answers.
use Rattle.std.specs.Prelude.{◌≡◌, ℕ, ◌*◌, ◌^◌, ◌<◌, ◌≤◌, List, ◌++◌, length, take, drop, replicate, count_by, min, ◌-◌, ◌==◌, nat_lt, Bool, if◌then◌else◌, Result, Ok, Err, ⊤}
use Rattle.dk_grammar.specs.Digits.{number_of, digits_of}
use Rattle.dk_grammar.specs.Runs.{Run as Meant, values_in, bytes_for, IsRun}
use Rattle.dk_hybrid.specs.declared.counting.Test.{Test}
use Rattle.dk_hybrid.specs.declared.counting.Test.TheVariants.{Equal, Below}
use Rattle.dk_hybrid.specs.declared.run.Run.{Run}
use Rattle.dk_hybrid.specs.declared.run.Run.TheVariants.{Repeated, Packed}
use Rattle.dk_hybrid.specs.declared.fault.HybridFault.{HybridFault}
use Rattle.dk_hybrid.specs.declared.fault.HybridFault.TheVariants.{Width, Short, OutOfMemory}

-- the values of a run
abbrev pub kept_values : ℕ → Run → List ℕ
kept_values width (Repeated copies value) = replicate copies value
kept_values width (Packed groups body) = digits_of (2 ^ width) (8 * groups) (number_of 256 body.now)

-- groups stand whole, and take bytes
abbrev pub HasWholeGroups : ℕ → Run → Type 0
HasWholeGroups width (Repeated copies value) = ⊤
HasWholeGroups width (Packed groups body) = (0 < width) × (length body.now ≡ groups * width)

-- The bytes begin with a run, which the code keeps as this one, and the rest stands behind it. So many values as memory could hold are the same.
pub record KeepsRun (width : ℕ) (bytes : List ℕ) (run : Run) (rest : List ℕ) : Type 0 where
  pub meant : Meant
  pub front : List ℕ
  pub whole : bytes ≡ front ++ rest
  pub is : IsRun width meant front
  pub kept : HasWholeGroups width run
  pub same : (count : ℕ) → count < 2 ^ 64 → take count (values_in meant) ≡ take count (kept_values width run)

-- the run is copies of the value at the front of the bytes, and the rest stands behind it
pub record KeepsValue (width copies : ℕ) (bytes : List ℕ) (run : Run) (rest : List ℕ) : Type 0 where
  pub room : bytes_for width ≤ length bytes
  pub value : run ≡ Repeated copies (number_of 256 (take (bytes_for width) bytes))
  pub behind : rest ≡ drop (bytes_for width) bytes

-- The run is the groups at the front of the bytes, and the rest stands behind them. Values of no bits are all 0.
pub record KeepsGroups (width groups : ℕ) (bytes : List ℕ) (run : Run) (rest : List ℕ) : Type 0 where
  pub room : groups * width ≤ length bytes
  pub kept : HasWholeGroups width run
  pub values : kept_values width run ≡ (if width == 0 then replicate (min (8 * groups) (2 ^ 64 - 1)) 0 else digits_of (2 ^ width) (8 * groups) (number_of 256 (take (groups * width) bytes)))
  pub behind : rest ≡ drop (groups * width) bytes

-- the result is this, unless memory was refused
abbrev pub GivesValues : {X Y : Type 0} → (X → Y) → Result X HybridFault → Y → Type 0
GivesValues view (Ok found) meant = view found ≡ meant
GivesValues view (Err Width) meant = ⊥
GivesValues view (Err Short) meant = ⊥
GivesValues view (Err OutOfMemory) meant = ⊤

-- the values that are counted
abbrev pub passes : Test → ℕ → Bool
passes (Equal wanted) value = value == wanted
passes (Below bound) value = nat_lt value bound

-- so many of the values pass the test, and these are so many, no more than asked for
pub record Counts (test : Test) (most : ℕ) (values : List ℕ) (passing seen : ℕ) : Type 0 where
  pub found : passing ≡ count_by (λ value. passes test value) values
  pub all : seen ≡ length values
  pub few : passing ≤ seen
  pub within : seen ≤ most
