-- What the winners are to the history of a lawful log (Delta Lake's PROTOCOL.md, "Delta Log Entries", "Commit Provenance Information").
use Rattle.std.specs.Prelude.{◌≡◌, ℕ, ℤ, ◌+◌, ◌≤◌, List, drop, Ok}
use Rattle.dk_store.specs.Told.{Told}
use Rattle.dk_model.specs.declared.action.Action.{Action}
use Rattle.dk_lawful.specs.History.{history, commits_of, next_version}
use Rattle.dk_lawful.specs.Ids.{HasId}
use Rattle.dk_lawful.specs.Lawful.{Lawful}
use Rattle.dk_txn.specs.Winners.{Own, Others, since}

-- they are all commits of the history from a version on, and none of these has the id
pub record AreLater (events : List Told) (first : ℕ) (id : List ℕ) (winners : List (List Action)) : Type 0 where
  pub all : winners ≡ drop first (commits_of (history events))
  pub none_own : (version : ℕ) → first ≤ version → HasId (history events) version id → ⊥

-- where no commit since the snapshot is the own one, they are all that came since
abbrev pub OthersAreLater : Type 0
OthersAreLater = (events : List Told) (horizon : ℤ) → Lawful events horizon → (limit : ℕ) (id : List ℕ) (first count : ℕ) (winners : List (List Action)) → first + count ≡ next_version events
    → since events limit id first count ≡ Ok (Others winners) → AreLater events first id winners

-- the own commit that is found is the one that the history has after the snapshot
abbrev pub OwnIsHad : Type 0
OwnIsHad = (events : List Told) (horizon : ℤ) → Lawful events horizon → (limit : ℕ) (id : List ℕ) (first count version : ℕ) → first + count ≡ next_version events
    → since events limit id first count ≡ Ok (Own version) → (first ≤ version) × HasId (history events) version id
