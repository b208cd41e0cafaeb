-- Which object of a segment is the oldest, row by row.
use Rattle.std.specs.Prelude.{◌≡◌, ℕ, true, List, [], ◌∷◌, Option, Some, None, codes}
use Rattle.dk_lawful.specs.declared.segment.CheckpointRef.{CheckpointRef}
use Rattle.dk_lawful.specs.declared.segment.CheckpointRef.TheVariants as checkpoint
use Rattle.dk_lawful.specs.declared.segment.Step.{Step}
use Rattle.dk_lawful.specs.declared.segment.Step.TheVariants.{Commit, Compacted}
use Rattle.dk_snapshot.specs.Steps.{oldest_path}

-- the segment has its oldest object at this path
abbrev pub IsOldest : Option CheckpointRef → List Step → List ℕ → Type 0
IsOldest base steps path = oldest_path (record { base = base; steps = steps }) ≡ path

-- ---- paths

abbrev pub commit_0 : List ℕ
commit_0 = codes "_delta_log/00000000000000000000.json"

abbrev pub commit_1 : List ℕ
commit_1 = codes "_delta_log/00000000000000000001.json"

abbrev pub compacted_0_1 : List ℕ
compacted_0_1 = codes "_delta_log/00000000000000000000.00000000000000000001.compacted.json"

abbrev pub commit_2 : List ℕ
commit_2 = codes "_delta_log/00000000000000000002.json"

abbrev pub classic_1 : List ℕ
classic_1 = codes "_delta_log/00000000000000000001.checkpoint.parquet"

abbrev pub part_1 : List ℕ
part_1 = codes "_delta_log/00000000000000000001.checkpoint.0000000001.0000000002.parquet"

abbrev pub part_2 : List ℕ
part_2 = codes "_delta_log/00000000000000000001.checkpoint.0000000002.0000000002.parquet"

abbrev pub v2_1 : List ℕ
v2_1 = codes "_delta_log/00000000000000000001.checkpoint.00000000-0000-0000-0000-000000000007.json"

-- ---- rows

-- without a checkpoint it is that of the first step: a commit or a compacted file
abbrev pub CommitIsOldest : Type 0
CommitIsOldest = IsOldest None (Commit 0 commit_0 ∷ Commit 1 commit_1 ∷ []) commit_0

abbrev pub CompactedIsOldest : Type 0
CompactedIsOldest = IsOldest None (Compacted 0 1 compacted_0_1 ∷ Commit 2 commit_2 ∷ []) compacted_0_1

-- with one it is its one object, or its first part, whether steps come after it or not
abbrev pub ClassicIsOldest : Type 0
ClassicIsOldest = IsOldest (Some (checkpoint.Classic 1 classic_1)) (Commit 2 commit_2 ∷ []) classic_1

abbrev pub PartIsOldest : Type 0
PartIsOldest = IsOldest (Some (checkpoint.Parts 1 2 (part_1 ∷ part_2 ∷ []))) (Commit 2 commit_2 ∷ []) part_1

abbrev pub V2IsOldest : Type 0
V2IsOldest = IsOldest (Some (checkpoint.V2 1 v2_1 true)) [] v2_1
