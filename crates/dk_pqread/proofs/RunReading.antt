-- Runs and levels are found, and only they.
use Rattle.std.proofs.Common.{◌≡◌, ℕ, List, take, drop, sym, arith}
use Rattle.std.proofs.lemmas.List.{take-append-drop}
use Rattle.dk_grammar.specs.Runs.{AreFirst}
use Rattle.dk_pqmodel.specs.FilePages.{IsWidth}
use Rattle.dk_pqmodel.specs.declared.fault.PqFault.{PqFault}
use Rattle.dk_pqread.specs.Meanings.{AreLevelsOf, HoldRuns, RefusesMeaning}
use Rattle.dk_pqread.proofs.Finding.{refuses_by}
use Rattle.dk_pqread.proofs.LevelLaws.{levels_runs, runs_levels}

pub runs_found : (width count used : ℕ) (bytes values : List ℕ) → AreFirst width count values (take used bytes) → HoldRuns width count bytes values
runs_found width count used bytes values first = record { runs = take used bytes; over = drop used bytes; whole = sym (take-append-drop used bytes); first = first }

pub levels_found : (greatest width count : ℕ) (bytes levels : List ℕ) → (greatest ≡ 0 → ⊥) → IsWidth greatest width → HoldRuns width count bytes levels → AreLevelsOf greatest count bytes levels
levels_found greatest width count bytes levels some is held = runs_levels greatest width count bytes levels (omega (arith, some)) is held

pub levels_refused : (greatest width count : ℕ) (bytes : List ℕ) (fault : PqFault) → (greatest ≡ 0 → ⊥) → IsWidth greatest width → RefusesMeaning fault (HoldRuns width count bytes) → RefusesMeaning fault (AreLevelsOf greatest count bytes)
levels_refused greatest width count bytes fault some is h =
    refuses_by fault (HoldRuns width count bytes) (AreLevelsOf greatest count bytes) (λ levels m. (levels, levels_runs greatest width count bytes levels (omega (arith, some)) is m.0 m.1)) h
