use Rattle.std.proofs.Common.{refl, ap, ◌∙◌, [], ◌∷◌}
use Rattle.dk_paths.specs.Staged.{staged_of}
use Rattle.dk_features.specs.InForce.{has_feature}
use Rattle.dk_lawful.specs.Timestamps.{has_timestamps}
use Rattle.dk_times.specs.Versions.{run_up_to}
use Rattle.dk_lawful.specs.ManagedExample.{checkpointed}
use Rattle.dk_lawful.proofs.ManagedExample.{managed_history}
use Rattle.dk_times.specs.TimesOfEvents.{known_with}
use Rattle.dk_times.specs.TimesExample.{times_of}
use Rattle.dk_times.proofs.laws.worked_times.Goals as goal

pub returns-clause-from_start : goal.returns-clause-from_start
unfolding has_timestamps has_feature run_up_to
returns-clause-from_start c = (refl, refl)

pub returns-clause-by_stamps : goal.returns-clause-by_stamps
unfolding has_timestamps has_feature run_up_to staged_of
returns-clause-by_stamps c = (refl, refl)

pub returns-clause-since_a_version : goal.returns-clause-since_a_version
unfolding has_timestamps has_feature run_up_to
returns-clause-since_a_version c = (refl, refl)

pub returns-clause-of_events : goal.returns-clause-of_events
unfolding has_timestamps has_feature
returns-clause-of_events c = ap (λ history. times_of (known_with checkpointed history) (0 ∷ 1 ∷ [])) managed_history ∙ refl

pub returns-clause-behind_the_gap : goal.returns-clause-behind_the_gap
unfolding run_up_to
returns-clause-behind_the_gap c = refl

pub returns-clause-at_the_ends : goal.returns-clause-at_the_ends
returns-clause-at_the_ends c = (refl, refl, refl)
