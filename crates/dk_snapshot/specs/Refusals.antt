-- The refusals of each call over a store, and no others, whether the store tells its events or not.
use Rattle.std.specs.Prelude.{ℕ, Option, Some, None}
use Rattle.dk_engine.specs.declared.limits.Which.TheVariants.{Object}
use Rattle.dk_engine.specs.declared.refusal.Refusal.{Refusal}
use Rattle.dk_engine.specs.declared.refusal.Refusal.TheVariants.{Store, Missing, Unsupported, Damaged, Limit, OutOfMemory, NoVersion}

-- of a survey
abbrev pub SurveyRefuses : Refusal → Type 0
SurveyRefuses Store = Unit {0}
SurveyRefuses OutOfMemory = Unit {0}
SurveyRefuses refusal = ⊥

-- of reading the commit of a step
abbrev pub ReadRefuses : Refusal → Type 0
ReadRefuses Store = Unit {0}
ReadRefuses (Missing path) = Unit {0}
ReadRefuses (Damaged path place) = Unit {0}
ReadRefuses (Limit Object size) = Unit {0}
ReadRefuses OutOfMemory = Unit {0}
ReadRefuses refusal = ⊥

-- a version is asked for, and not the latest one
abbrev pub IsAsked : Option ℕ → Type 0
IsAsked None = ⊥
IsAsked (Some version) = Unit {0}

-- of opening the asked version, or the latest one
abbrev pub OpenRefuses : Option ℕ → Refusal → Type 0
OpenRefuses at Store = Unit {0}
OpenRefuses at (Missing path) = Unit {0}
OpenRefuses at (Unsupported name) = Unit {0}
OpenRefuses at (Damaged path place) = Unit {0}
OpenRefuses at (Limit Object size) = Unit {0}
OpenRefuses at OutOfMemory = Unit {0}
OpenRefuses at (NoVersion latest) = IsAsked at
OpenRefuses at refusal = ⊥
