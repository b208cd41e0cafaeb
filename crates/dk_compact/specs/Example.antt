-- Worked sums of commits.
use Rattle.std.specs.Prelude.{◌≡◌, ℕ, pos, true, false, List, [], ◌∷◌, codes, None}
use Rattle.dk_model.specs.declared.action.Action.{Action}
use Rattle.dk_model.specs.declared.action.Action.TheVariants as action
use Rattle.dk_compact.specs.Summary.{summary_of}

abbrev pub domain_set : Action
domain_set = action.Domain (record { domain = codes "d"; configuration = codes "c"; removed = false })

abbrev pub domain_removed : Action
domain_removed = action.Domain (record { domain = codes "d"; configuration = []; removed = true })

-- a domain that is set and then removed leaves its removal
abbrev pub RemovedDomainStays : Type 0
RemovedDomainStays = summary_of ((domain_set ∷ []) ∷ (domain_removed ∷ []) ∷ []) ≡ domain_removed ∷ []

abbrev recorded : ℕ → Action
recorded version = action.Txn (record { app_id = codes "app"; version = pos version; last_updated = None })

abbrev removal : List ℕ → ℕ → Action
removal path time = action.Remove (record { path = path; deletion_timestamp = pos time; data_change = false })

abbrev added : List ℕ → Action
added path = action.Add (record {
  path = path;
  partition_values = [];
  size = pos 1;
  modification_time = pos 1;
  data_change = false;
  stats = None;
  tags = None;
  base_row_id = None;
  default_row_commit_version = None;
  clustering_provider = None;
  vector = false;
})

-- Of each application and path the last action stands: "b" was removed and is added again, "a" was added and is removed.
abbrev pub LastStands : Type 0
LastStands =
    summary_of ((recorded 1 ∷ removal (codes "b") 5 ∷ added (codes "a") ∷ []) ∷ (added (codes "b") ∷ recorded 2 ∷ removal (codes "a") 7 ∷ []) ∷ [])
    ≡ recorded 2 ∷ removal (codes "a") 7 ∷ added (codes "b") ∷ []

-- the removal of a file stays, at whatever time it was
abbrev pub OldRemovalStays : Type 0
OldRemovalStays = summary_of ((removal (codes "a") 0 ∷ []) ∷ [] ∷ []) ≡ removal (codes "a") 0 ∷ []
