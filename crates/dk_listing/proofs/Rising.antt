-- A name that was read has numbers that it may have.
use Rattle.std.proofs.Common.{◌≡◌, List, ℕ, true, refl}
use Rattle.std.proofs.lemmas.Bool.{lt-ltb}
use Rattle.dk_paths.specs.declared.log_name.LogName.{LogName}
use Rattle.dk_paths.specs.declared.log_name.LogName.TheVariants.{Commit, Classic, Part, V2Json, V2Parquet, Compacted, Hint, Other}
use Rattle.dk_paths.specs.Names.{IsNameOf}
use Rattle.dk_listing.specs.Newest.{is_rising}

pub name_rises : (text : List ℕ) (name : LogName) → IsNameOf text name → is_rising name ≡ true
name_rises text (Compacted first last) is = lt-ltb first last is.0.0
name_rises text (Commit version) is = refl
name_rises text (Classic version) is = refl
name_rises text (Part version part parts) is = refl
name_rises text (V2Json version id) is = refl
name_rises text (V2Parquet version id) is = refl
name_rises text Hint is = refl
name_rises text Other is = refl
