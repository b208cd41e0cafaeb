-- Under an id that stood nowhere the commit that the program tells of stands once, at its version.
use Rattle.std.proofs.Common.{ℕ, ℤ, ◌||◌, Bool, List, Option, Some, None, ap}
use Rattle.std.specs.List.{list_any}
use Rattle.std.specs.Prelude.{Ok, Err}
use Rattle.dk_store.specs.Told.{Told}
use Rattle.dk_model.specs.declared.action.Action.{Action}
use Rattle.dk_paths.specs.Numbers.{id_text}
use Rattle.dk_lawful.specs.History.{by_file, commits_of, history, next_version}
use Rattle.dk_engine.specs.declared.refusal.Refusal.{Refusal}
use Rattle.dk_lawful.specs.Ids.{says, SaysId, StandsAt}
use Rattle.dk_lawful.specs.Kept.{IfBoth}
use Rattle.dk_lawful.specs.Transacted.{transacted, put_at, time_at}
use Rattle.dk_lawful.proofs.IdsOnce.{added_stands_at}
use Rattle.dk_lawful.proofs.Standing.{text_refl}
use Rattle.dk_txn.specs.declared.commit.Committed.{Committed}
use Rattle.dk_txn.specs.Commits.{SaysTransacted}
use Rattle.dk_cli.specs.declared.status.Status.{Status}
use Rattle.dk_cli.specs.declared.status.Status.TheVariants as statuses
use Rattle.dk_cli.specs.Commit.{CommitStands, SaysOnce}

says_own : (base : ℕ) (commits : List (List Action)) (now : ℤ) (actions : List Action) → SaysId (id_text base) (by_file (transacted commits now (id_text base) actions))
says_own base commits now actions = ap (λ (b : Bool). b || list_any (says (id_text base)) (put_at commits (time_at commits now) actions)) (text_refl (id_text base))

as_told : (base : ℕ) (events later : List Told) (status : Status) → StandsAt later (next_version events) (id_text base) → CommitStands base status events later
as_told base events later statuses.Done stands = stands
as_told base events later statuses.SinkFault stands = stands
as_told base events later status stands = tt

-- by what the commit says of the history
pub done_once : (now : ℤ) (base : ℕ) (actions : List Action) (committed : Committed) (told later : Option (List Told)) (status : Status)
    → IfBoth told later (SaysTransacted now base actions (Ok committed)) → IfBoth told later (SaysOnce base status)
done_once now base actions committed None None status says = tt
done_once now base actions committed None (Some later) status says = says
done_once now base actions committed (Some events) None status says = says
done_once now base actions committed (Some events) (Some later) status says = λ horizon lawful nowhere.
    as_told base events later status (added_stands_at events later (by_file (transacted (commits_of (history events)) now (id_text base) actions)) (id_text base) nowhere ((says horizon lawful).1)
    (says_own base (commits_of (history events)) now actions))

-- a refused commit tells of none
pub refused_once : (now : ℤ) (base : ℕ) (actions : List Action) (told later : Option (List Told)) (refusal : Refusal)
    → IfBoth told later (SaysTransacted now base actions (Err refusal)) → IfBoth told later (SaysOnce base (statuses.Refused refusal))
refused_once now base actions None None refusal says = tt
refused_once now base actions None (Some later) refusal says = says
refused_once now base actions (Some events) None refusal says = says
refused_once now base actions (Some events) (Some later) refusal says = λ horizon lawful nowhere. tt
