-- The refusals of a part are refusals of the whole.
use Rattle.std.specs.Prelude.{ℕ, Option, None, Result, Ok, Err, IfErr}
use Rattle.dk_engine.specs.declared.limits.Which.TheVariants.{Object}
use Rattle.dk_engine.specs.declared.refusal.Refusal.{Refusal}
use Rattle.dk_engine.specs.declared.refusal.Refusal.TheVariants.{Store, Missing, Unsupported, Damaged, Limit, OutOfMemory}
use Rattle.dk_segment.specs.Chosen.{ChooseRefuses}
use Rattle.dk_snapshot.specs.Refusals.{SurveyRefuses, ReadRefuses, OpenRefuses}

pub survey_opens : (at : Option ℕ) (refusal : Refusal) → SurveyRefuses refusal → OpenRefuses at refusal
survey_opens at Store may = tt
survey_opens at OutOfMemory may = tt
survey_opens at _ may = absurd may

pub choose_opens : (at : Option ℕ) (refusal : Refusal) → ChooseRefuses refusal → OpenRefuses at refusal
choose_opens at (Missing path) may = tt
choose_opens at OutOfMemory may = tt
choose_opens at _ may = absurd may

pub read_opens : (at : Option ℕ) (refusal : Refusal) → ReadRefuses refusal → OpenRefuses at refusal
read_opens at Store may = tt
read_opens at (Missing path) may = tt
read_opens at (Damaged path place) may = tt
read_opens at (Limit Object size) may = tt
read_opens at OutOfMemory may = tt
read_opens at _ may = absurd may

-- what refuses the latest version may refuse any
pub latest_opens : (at : Option ℕ) (refusal : Refusal) → OpenRefuses None refusal → OpenRefuses at refusal
latest_opens at Store may = tt
latest_opens at (Missing path) may = tt
latest_opens at (Unsupported name) may = tt
latest_opens at (Damaged path place) may = tt
latest_opens at (Limit Object size) may = tt
latest_opens at OutOfMemory may = tt
latest_opens at _ may = absurd may

pub any_asked : {X : Type 0} (at : Option ℕ) (result : Result X Refusal) → IfErr result (OpenRefuses None) → IfErr result (OpenRefuses at)
any_asked at (Ok x) may = tt
any_asked at (Err refusal) may = latest_opens at refusal may
