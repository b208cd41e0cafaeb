-- The ranges of numbers that actions have.
use Rattle.std.specs.Prelude.{ℤ, pos, negsuc, ◌^◌, ◌<◌, IfSome}
use Rattle.dk_model.specs.declared.action.Protocol.{Protocol}
use Rattle.dk_model.specs.declared.action.Metadata.{Metadata}
use Rattle.dk_model.specs.declared.action.AddFile.{AddFile}
use Rattle.dk_model.specs.declared.action.RemoveFile.{RemoveFile}
use Rattle.dk_model.specs.declared.action.Txn.{Txn}
use Rattle.dk_model.specs.declared.action.CommitInfo.{CommitInfo}
use Rattle.dk_model.specs.declared.action.CheckpointMeta.{CheckpointMeta}
use Rattle.dk_model.specs.declared.action.SidecarRef.{SidecarRef}
use Rattle.dk_model.specs.declared.state.Application.{Application}
use Rattle.dk_model.specs.declared.action.Action.{Action}
use Rattle.dk_model.specs.declared.action.Action.TheVariants as action

-- a signed number of 64 bits
abbrev pub IsWhole : ℤ → Type 0
IsWhole (pos n) = n < 2 ^ 63
IsWhole (negsuc n) = n < 2 ^ 63

pub record IsProtocolInRange (p : Protocol) : Type 0 where
  pub reader : p.min_reader < 2 ^ 31
  pub writer : p.min_writer < 2 ^ 31

pub record IsMetadataInRange (m : Metadata) : Type 0 where
  pub time : IfSome m.created_time IsWhole

pub record IsAddInRange (f : AddFile) : Type 0 where
  pub size : IsWhole f.size
  pub time : IsWhole f.modification_time
  pub row : IfSome f.base_row_id IsWhole
  pub version : IfSome f.default_row_commit_version IsWhole

pub record IsRemoveInRange (r : RemoveFile) : Type 0 where
  pub time : IsWhole r.deletion_timestamp

pub record IsInfoInRange (i : CommitInfo) : Type 0 where
  pub timestamp : IfSome i.in_commit_timestamp IsWhole

pub record IsTxnInRange (t : Txn) : Type 0 where
  pub version : IsWhole t.version
  pub updated : IfSome t.last_updated IsWhole

pub record IsApplicationInRange (a : Application) : Type 0 where
  pub version : IsWhole a.version
  pub updated : IfSome a.last_updated IsWhole

pub record IsCheckpointMetaInRange (m : CheckpointMeta) : Type 0 where
  pub version : m.version < 2 ^ 63

pub record IsSidecarInRange (r : SidecarRef) : Type 0 where
  pub size : IsWhole r.size
  pub stamp : IsWhole r.stamp

abbrev pub IsInRange : Action → Type 0
IsInRange (action.Protocol p) = IsProtocolInRange p
IsInRange (action.Metadata m) = IsMetadataInRange m
IsInRange (action.Add f) = IsAddInRange f
IsInRange (action.Remove r) = IsRemoveInRange r
IsInRange (action.Txn t) = IsTxnInRange t
IsInRange (action.Domain d) = Unit {0}
IsInRange (action.Info i) = IsInfoInRange i
IsInRange action.Cdc = Unit {0}
IsInRange (action.CheckpointMeta m) = IsCheckpointMetaInRange m
IsInRange (action.Sidecar r) = IsSidecarInRange r
