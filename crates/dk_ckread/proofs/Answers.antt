-- What an object answers, put together from what its file and its rows do.
use Rattle.std.proofs.Common.{◌≡◌, inl, inr, List, refl, sym, subst}
use Rattle.std.specs.Prelude.{ℕ, Result, Ok, Err}
use Rattle.dk_model.specs.declared.action.Action.{Action}
use Rattle.dk_pqmodel.specs.Datum.{Cells}
use Rattle.dk_pqmodel.specs.FileMeans.{FileMeans}
use Rattle.dk_engine.specs.Answers.{AnswersBy}
use Rattle.dk_engine.specs.declared.refusal.Refusal.{Refusal}
use Rattle.dk_engine.specs.declared.refusal.Refusal.TheVariants as refusals
use Rattle.dk_lawful.specs.CheckpointSchema.{read_fields}
use Rattle.dk_pqmodel.specs.Reads.{Reads}
use Rattle.dk_pqmodel.specs.declared.fault.PqFault.{PqFault}
use Rattle.dk_pqmodel.specs.declared.fault.PqFault.TheVariants as faults
use Rattle.dk_ckread.specs.Reading.{FileRefused, refusal_by, FileAnswers, RowsAnswer, ObjectAnswers, ReadCheckpointRefuses, ReadsGot}

-- a refusal of a part, where the whole hands it on
pub refused_by : {X Y Z W : Type 0} (view : X → Y) (other : Z → W) (Part : Result Y Refusal → Type 0) (Whole : Result W Refusal → Type 0)
    → ((refusal : Refusal) → Part (Err refusal) → Whole (Err refusal)) → (refusal : Refusal) → AnswersBy view (Err refusal) Part → AnswersBy other (Err refusal) Whole
refused_by view other Part Whole hands refusals.Store means = tt
refused_by view other Part Whole hands refusals.OutOfMemory means = tt
refused_by view other Part Whole hands (refusals.Taken path) means = absurd means
refused_by view other Part Whole hands refusal means = hands _ means

-- the refusal of a file is the object's
pub file_refused : {X Z : Type 0} (view : X → Cells) (other : Z → List Action) (path bytes : List ℕ) (refusal : Refusal)
    → AnswersBy view (Err refusal) (FileAnswers path bytes) → AnswersBy other (Err refusal) (ObjectAnswers path bytes)
file_refused view other path bytes refusal means = refused_by view other (FileAnswers path bytes) (ObjectAnswers path bytes) (λ r fault. inl fault) refusal means

-- what its rows answer is the object's
pub rows_answer : {Z : Type 0} (view : Z → List Action) (path bytes : List ℕ) (rows : Cells) (result : Result Z Refusal)
    → FileMeans read_fields bytes rows → AnswersBy view result (RowsAnswer path rows) → AnswersBy view result (ObjectAnswers path bytes)
rows_answer view path bytes rows (Ok z) means answer = (record { rows = rows; means = means; read = answer.0 }, answer.1)
rows_answer view path bytes rows (Err refusal) means answer =
    refused_by view view (RowsAnswer path rows) (ObjectAnswers path bytes) (λ r given. inr (rows, means, given)) refusal answer

-- what reading a file says of a fault, as a refusal of the object
pub file_answers : {X : Type 0} (view : X → Cells) (path bytes : List ℕ) (fault : PqFault) → Reads read_fields bytes (Err fault) → AnswersBy view (Err (refusal_by path fault)) (FileAnswers path bytes)
file_answers view path bytes faults.OutOfMemory reads = tt
file_answers view path bytes faults.Broken reads = (faults.Broken, reads, refl)
file_answers view path bytes faults.NotParquet reads = (faults.NotParquet, reads, refl)
file_answers view path bytes (faults.Shape column) reads = (faults.Shape column, reads, refl)
file_answers view path bytes (faults.Compressed column codec) reads = (faults.Compressed column codec, reads, refl)
file_answers view path bytes (faults.Encoding column code) reads = (faults.Encoding column code, reads, refl)

never_store : {X : Type 0} (path : List ℕ) (fault : PqFault) → ◌≡◌ {A = Result X Refusal} (Err (refusal_by path fault)) (Err refusals.Store) → ⊥
never_store path faults.OutOfMemory is = cc
never_store path faults.Broken is = cc
never_store path faults.NotParquet is = cc
never_store path (faults.Shape column) is = cc
never_store path (faults.Compressed column codec) is = cc
never_store path (faults.Encoding column code) is = cc

refuses_so : (path : List ℕ) (fault : PqFault) → ReadCheckpointRefuses (refusal_by path fault)
refuses_so path faults.OutOfMemory = tt
refuses_so path faults.Broken = tt
refuses_so path faults.NotParquet = tt
refuses_so path (faults.Shape column) = tt
refuses_so path (faults.Compressed column codec) = tt
refuses_so path (faults.Encoding column code) = tt

pub file_got : {X : Type 0} (view : X → Cells) (path bytes : List ℕ) (fault : PqFault) (refusal : Refusal) → refusal ≡ refusal_by path fault → Reads read_fields bytes (Err fault)
    → ReadsGot {X = X} view (Err refusal) (FileAnswers path bytes)
file_got {X = X} view path bytes fault refusal is reads = subst (λ (r : Refusal). ReadsGot {X = X} view (Err r) (FileAnswers path bytes)) (sym is) (record {
  meant = file_answers view path bytes fault reads;
  store = never_store {X = X} path fault;
  refusals = refuses_so path fault;
})

-- and back
pub reads_so : (bytes : List ℕ) (fault : PqFault) → FileRefused bytes fault → Reads read_fields bytes (Err fault)
reads_so bytes faults.OutOfMemory refused = absurd refused
reads_so bytes faults.Broken refused = refused
reads_so bytes faults.NotParquet refused = refused
reads_so bytes (faults.Shape column) refused = refused
reads_so bytes (faults.Compressed column codec) refused = refused
reads_so bytes (faults.Encoding column code) refused = refused
