-- A refusal that is passed on.
use Rattle.std.proofs.Common.{◌≡◌, ap, ◌∙◌, subst}
use Rattle.std.specs.Prelude.{Result, Ok, Err}
use Rattle.dk_engine.specs.declared.refusal.Refusal.{Refusal}
use Rattle.dk_engine.specs.declared.refusal.Refusal.TheVariants as refusals
use Rattle.dk_engine.specs.Answers.{Refuses, AnswersMeant, AnswersBy}

-- what refuses a part refuses what is made of it, where that hands each refusal on
pub refused_by_part : {X Y : Type 0} (whole : Result X Refusal → Result Y Refusal) → ((r : Refusal) → whole (Err r) ≡ Err r)
    → (refusal : Refusal) (part : Result X Refusal) → Refuses refusal part → Refuses refusal (whole part)
refused_by_part whole hands refusals.Store part means = tt
refused_by_part whole hands refusals.OutOfMemory part means = tt
refused_by_part whole hands (refusals.Taken path) part means = absurd means
refused_by_part whole hands refusal part means = ap whole means ∙ hands _

-- what gives one meaning gives an equal one
pub gives_same : {X Y : Type 0} (view : X → Y) (result : Result X Refusal) (one other : Result Y Refusal) → one ≡ other → AnswersMeant view result one → AnswersMeant view result other
gives_same view result one other same means = subst (λ meant. AnswersMeant view result meant) same means

-- what gives the one value of a relation gives what the relation means
pub gives_by : {X Y : Type 0} (view : X → Y) (result : Result X Refusal) (meant : Result Y Refusal) (means : Result Y Refusal → Type 0)
    → AnswersMeant view result meant → ((answer : Result Y Refusal) → meant ≡ answer → means answer) → AnswersBy view result means
gives_by view (Ok x) meant means gives is = is _ gives
gives_by view (Err refusals.Store) meant means gives is = tt
gives_by view (Err refusals.OutOfMemory) meant means gives is = tt
gives_by view (Err (refusals.Taken path)) meant means gives is = absurd gives
gives_by view (Err refusal) meant means gives is = is _ gives
