-- What a proof unfolds to compute what the text of a commit means, and which rules it breaks.
use Rattle.std.specs.Prelude.{⊤}
use Rattle.std.specs.Str.{chars, is_utf8}
use Rattle.serde_json.proofs.OnLiterals.{serde_json_on_literals}
use Rattle.dk_model.specs.ActionKeys.{all_keys}
use Rattle.dk_model.specs.AddObject.{add_of}
use Rattle.dk_model.specs.CommitText.{line_means}
use Rattle.dk_model.specs.MetadataObject.{format_of, metadata_of}
use Rattle.dk_model.specs.ProtocolObject.{protocol_of}
use Rattle.dk_model.specs.RemoveObject.{remove_of}
use Rattle.dk_features.specs.InForce.{has_feature}
use Rattle.dk_features.specs.Forms.{has_form, keeps_features}
use Rattle.dk_lawful.specs.Rules.{is_append_only}
use Rattle.dk_lawful.specs.Timestamps.{has_timestamps}
use Rattle.dk_lawful.specs.Written.{is_table_written}

unfoldable pub commits_on_literals : ⊤
unfolding serde_json_on_literals chars is_utf8 all_keys add_of line_means format_of metadata_of protocol_of remove_of
commits_on_literals = tt

unfoldable pub rules_on_literals : ⊤
unfolding has_feature has_form keeps_features is_table_written is_append_only has_timestamps
rules_on_literals = tt
