-- The refusals of a part are refusals of the whole.
use Rattle.std.proofs.Common.{◌≡◌, sym, subst}
use Rattle.std.specs.Prelude.{None, Result, Ok, Err, IfErr}
use Rattle.dk_engine.specs.declared.limits.Which.TheVariants.{Object}
use Rattle.dk_engine.specs.declared.refusal.Refusal.{Refusal}
use Rattle.dk_engine.specs.declared.refusal.Refusal.TheVariants.{Store, Missing, Unsupported, Damaged, Limit, OutOfMemory, Taken}
use Rattle.dk_segment.specs.Chosen.{ChooseRefuses}
use Rattle.dk_snapshot.specs.Refusals.{SurveyRefuses, ReadRefuses, OpenRefuses}
use Rattle.dk_txn.specs.declared.commit.Committed.{Committed}
use Rattle.dk_txn.specs.Refusals.{BeginRefuses, CheckRefuses, TransactionRefuses, CommitAtLatestRefuses}
use Rattle.dk_txn.specs.Winners.{gone}

pub open_begins : (refusal : Refusal) → OpenRefuses None refusal → BeginRefuses refusal
open_begins Store may = tt
open_begins (Missing path) may = tt
open_begins (Unsupported name) may = tt
open_begins (Damaged path place) may = tt
open_begins (Limit Object size) may = tt
open_begins OutOfMemory may = tt
open_begins _ may = absurd may

pub survey_begins : (refusal : Refusal) → SurveyRefuses refusal → BeginRefuses refusal
survey_begins Store may = tt
survey_begins OutOfMemory may = tt
survey_begins _ may = absurd may

pub survey_checks : (refusal : Refusal) → SurveyRefuses refusal → CheckRefuses refusal
survey_checks Store may = tt
survey_checks OutOfMemory may = tt
survey_checks _ may = absurd may

-- a winner that is missing is gone
pub choose_gone : (refusal : Refusal) → ChooseRefuses refusal → CheckRefuses (gone refusal)
choose_gone (Missing path) may = tt
choose_gone OutOfMemory may = tt
choose_gone _ may = absurd may

pub read_gone : (refusal : Refusal) → ReadRefuses refusal → CheckRefuses (gone refusal)
read_gone Store may = tt
read_gone (Missing path) may = tt
read_gone (Damaged path place) may = tt
read_gone (Limit Object size) may = tt
read_gone OutOfMemory may = tt
read_gone _ may = absurd may

pub choose_is_gone : (refusal answer : Refusal) → answer ≡ gone refusal → ChooseRefuses refusal → CheckRefuses answer
choose_is_gone refusal answer is may = subst CheckRefuses (sym is) (choose_gone refusal may)

pub read_is_gone : (refusal answer : Refusal) → answer ≡ gone refusal → ReadRefuses refusal → CheckRefuses answer
read_is_gone refusal answer is may = subst CheckRefuses (sym is) (read_gone refusal may)

pub check_commits : (refusal : Refusal) → CheckRefuses refusal → TransactionRefuses refusal
check_commits (Taken path) may = tt
check_commits _ may = may

pub begin_in_one : (refusal : Refusal) → BeginRefuses refusal → CommitAtLatestRefuses refusal
begin_in_one Store may = tt
begin_in_one (Missing path) may = tt
begin_in_one (Unsupported name) may = tt
begin_in_one (Damaged path place) may = tt
begin_in_one (Limit which value) may = tt
begin_in_one OutOfMemory may = tt
begin_in_one _ may = absurd may

pub commit_in_one : (result : Result Committed Refusal) → IfErr result TransactionRefuses → IfErr result CommitAtLatestRefuses
commit_in_one (Ok committed) may = tt
commit_in_one (Err refusal) may = by refusal may
  where
    by : (r : Refusal) → TransactionRefuses r → CommitAtLatestRefuses r
    by (Missing path) may = tt
    by _ may = may
