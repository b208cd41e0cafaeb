-- The keys of each table of fields rise.
use Rattle.std.proofs.Common.{ℕ, ℤ, List, [], ◌∷◌, Option, refl}
use Rattle.serde_json.specs.Data.{Data}
use Rattle.dk_model.specs.declared.action.Protocol.{Protocol}
use Rattle.dk_model.specs.declared.action.Metadata.{Metadata}
use Rattle.dk_model.specs.declared.action.AddFile.{AddFile}
use Rattle.dk_model.specs.declared.action.RemoveFile.{RemoveFile}
use Rattle.dk_model.specs.declared.action.Txn.{Txn}
use Rattle.dk_model.specs.declared.action.Domain.{Domain}
use Rattle.dk_model.specs.declared.action.CheckpointMeta.{CheckpointMeta}
use Rattle.dk_model.specs.declared.action.SidecarRef.{SidecarRef}
use Rattle.dk_model.specs.ProtocolObject.{protocol_fields}
use Rattle.dk_model.specs.MetadataObject.{format_fields, metadata_fields}
use Rattle.dk_model.specs.AddObject.{add_fields}
use Rattle.dk_model.specs.RemoveObject.{remove_fields}
use Rattle.dk_model.specs.TxnObject.{txn_fields}
use Rattle.dk_model.specs.DomainObject.{domain_fields}
use Rattle.dk_model.specs.InfoObject.{own_info_fields}
use Rattle.dk_model.specs.CheckpointObjects.{checkpoint_meta_fields, sidecar_fields}
use Rattle.dk_actjson.specs.Tokens.{keys_of, AreRising}
use Rattle.dk_actjson.proofs.Tokens.{rising_from_test}

pub protocol_rises : (p : Protocol) → AreRising (protocol_fields p)
unfolding protocol_fields
protocol_rises p = rising_from_test (keys_of (protocol_fields p)) refl

pub format_rises : (m : Metadata) → AreRising (format_fields m)
unfolding format_fields
format_rises m = rising_from_test (keys_of (format_fields m)) refl

pub metadata_rises : (m : Metadata) → AreRising (metadata_fields m)
unfolding metadata_fields
metadata_rises m = rising_from_test (keys_of (metadata_fields m)) refl

pub add_rises : (f : AddFile) → AreRising (add_fields f)
unfolding add_fields
add_rises f = rising_from_test (keys_of (add_fields f)) refl

pub remove_rises : (r : RemoveFile) → AreRising (remove_fields r)
unfolding remove_fields
remove_rises r = rising_from_test (keys_of (remove_fields r)) refl

pub txn_rises : (t : Txn) → AreRising (txn_fields t)
unfolding txn_fields
txn_rises t = rising_from_test (keys_of (txn_fields t)) refl

pub domain_rises : (d : Domain) → AreRising (domain_fields d)
unfolding domain_fields
domain_rises d = rising_from_test (keys_of (domain_fields d)) refl

pub checkpoint_meta_rises : (m : CheckpointMeta) → AreRising (checkpoint_meta_fields m)
unfolding checkpoint_meta_fields
checkpoint_meta_rises m = rising_from_test (keys_of (checkpoint_meta_fields m)) refl

pub sidecar_rises : (r : SidecarRef) → AreRising (sidecar_fields r)
unfolding sidecar_fields
sidecar_rises r = rising_from_test (keys_of (sidecar_fields r)) refl

pub own_info_rises : (txn_id : List ℕ) (timestamp : ℤ) → AreRising (own_info_fields txn_id timestamp)
unfolding own_info_fields
own_info_rises txn_id timestamp = rising_from_test (keys_of (own_info_fields txn_id timestamp)) refl

pub one_rises : (k : List ℕ) (o : Option Data) → AreRising ((k, o) ∷ [])
one_rises k o = rising_from_test (k ∷ []) refl
