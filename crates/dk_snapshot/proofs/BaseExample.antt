-- What checkpoints are read as, and how they are refused, row by row.
use Rattle.std.proofs.Common.{◌≡◌, ℕ, ◌≤◌, pos, Bool, true, inl, inr, List, [], ◌∷◌, ◌++◌, length, refl, sym, ap, subst, ◌∙◌, arith}
use Rattle.std.specs.Prelude.{Option, Some, None, Result, Ok, Err, IfSome, option_map, if◌then◌else◌}
use Rattle.std.specs.List.{filter_map}
use Rattle.dk_store.specs.Told.{Stored}
use Rattle.dk_store.specs.Objects.{content}
use Rattle.dk_model.specs.declared.action.Action.{Action}
use Rattle.dk_model.specs.CheckpointObjects.{checkpoint_meta_of}
use Rattle.dk_model.specs.CommitText.{reading_of, commit_in, commit_of}
use Rattle.dk_pqmodel.specs.FooterBytes.{magic, IsFramed}
use Rattle.dk_pqmodel.specs.declared.fault.PqFault.TheVariants as faults
use Rattle.dk_lawful.specs.CheckpointExample.{mark_text_1, whole_text, whole_actions, naming_text, naming_actions, unmarked_text, unmarked_actions, marked_twice_text, marked_twice_actions, misnaming_text, misnaming_actions}
use Rattle.dk_lawful.specs.Checkpoints.{marked_version, sidecars_of}
use Rattle.dk_lawful.specs.MoreExamples.{side_name}
use Rattle.dk_lawful.proofs.CheckpointExample.{has_these, whole_means, naming_means, names_side, unmarked_means, marked_twice_means, misnaming_means, misnamed}
use Rattle.dk_lawful.proofs.OnTexts.{commits_on_literals}
use Rattle.dk_lawful.proofs.Standing.{text_refl}
use Rattle.dk_engine.specs.declared.refusal.Refusal.TheVariants.{Damaged}
use Rattle.dk_listing.specs.Sizes.{size_of_object, stored_size}
use Rattle.dk_ckread.specs.Names.{known_codec}
use Rattle.dk_snapshot.specs.Bases.{IsWithin, Named, MeansNothing, LinesRefused}
use Rattle.dk_snapshot.specs.BaseExample.{alone, TextIsRefused, WholeIsRead, AbsentIsMissing, GreatIsOver, bad_text, BadLineIsNamed, UnmarkedIsDamaged, MarkedTwiceIsDamaged, MisnamingIsDamaged, LackingSidecarIsMissing, TextForFileIsDamaged, CodecIsNamed, EncodingIsNamed, EarlierPartIsFirst}
use Rattle.dk_snapshot.specs.OldestExample.{classic_1, part_1, v2_1}

-- ---- what stands

module _ (path bytes : List ℕ) where
  abbrev at_path : Bool → Option Stored
  at_path same = if same then Some (record { bytes = bytes; stamp = pos 1 }) else None

  stands : content (alone path bytes) path ≡ Some bytes
  stands = ap (λ (same : Bool). option_map (λ (o : Stored). o.bytes) (at_path same)) (text_refl path)

  sized : stored_size (alone path bytes) path ≡ Some (length bytes)
  sized = ap (λ (same : Bool). size_of_object (at_path same)) (text_refl path)

  within : (limit : ℕ) → length bytes ≤ limit → IsWithin (alone path bytes) limit path
  within limit fits = subst (λ (size : Option ℕ). IfSome size (λ s. s ≤ limit)) (sym sized) fits

-- ---- lines

read_so : (read : Result (List Action) ℕ) (actions : List Action) → commit_in read ≡ Some actions → read ≡ Ok actions
read_so (Ok found) actions is = let same : found ≡ actions = (let both : ◌≡◌ {A = Option (List Action)} (Some found) (Some actions) = is in cc) in ap Ok same
read_so (Err line) actions is = absurd (let no : ◌≡◌ {A = Option (List Action)} None (Some actions) = is in cc)

damaged_by : (text : List ℕ) (place : ℕ) → LinesRefused (Named 1 true) v2_1 text (reading_of text) (Damaged v2_1 place) → TextIsRefused text (Damaged v2_1 place)
damaged_by text place refused = λ limit fits. inl (inl (within v2_1 text limit fits, (text, stands v2_1 text, refused)))

-- lines that mean actions, which are no such object
damaged_whole : (text : List ℕ) (actions : List Action) → commit_of text ≡ Some actions → MeansNothing (Named 1 true) text → TextIsRefused text (Damaged v2_1 0)
damaged_whole text actions means nothing =
    damaged_by text 0 (subst (λ (read : Result (List Action) ℕ). LinesRefused (Named 1 true) v2_1 text read (Damaged v2_1 0)) (sym (read_so (reading_of text) actions means)) (nothing, refl))

-- they say other versions than theirs
says_other : (text : List ℕ) (actions : List Action) (said : List ℕ) → commit_of text ≡ Some actions → filter_map marked_version actions ≡ said → (said ≡ 1 ∷ [] → ⊥) → MeansNothing (Named 1 true) text
says_other text actions said means has differ = λ top (has_top, versions).
    differ (sym has ∙ ap (filter_map marked_version) (sym (has_these text actions top means has_top)) ∙ versions)

pub unmarked_is_damaged : UnmarkedIsDamaged
unmarked_is_damaged = damaged_whole unmarked_text unmarked_actions unmarked_means (says_other unmarked_text unmarked_actions [] unmarked_means refl differ)
  where
    differ : ◌≡◌ {A = List ℕ} [] (1 ∷ []) → ⊥
    differ is = cc

pub marked_twice_is_damaged : MarkedTwiceIsDamaged
marked_twice_is_damaged =
    damaged_whole marked_twice_text marked_twice_actions marked_twice_means (says_other marked_twice_text marked_twice_actions (1 ∷ 1 ∷ []) marked_twice_means refl differ)
  where
    differ : ◌≡◌ {A = List ℕ} (1 ∷ 1 ∷ []) (1 ∷ []) → ⊥
    differ is = let lengths : ◌≡◌ {A = ℕ} 2 1 = ap length is in omega (arith, lengths)

pub misnaming_is_damaged : MisnamingIsDamaged
misnaming_is_damaged = damaged_whole misnaming_text misnaming_actions misnaming_means nothing
  where
    none_is_some : (names : List (List ℕ)) → ◌≡◌ {A = Option (List (List ℕ))} None (Some names) → ⊥
    none_is_some names is = cc

    nothing : MeansNothing (Named 1 true) misnaming_text
    nothing = λ top (has_top, versions). none_is_some top.sidecars (sym misnamed ∙ ap sidecars_of (sym (has_these misnaming_text misnaming_actions top misnaming_means has_top)) ∙ has_top.named)

bad_reads : reading_of bad_text ≡ Err 2
unfolding commits_on_literals checkpoint_meta_of mark_text_1
bad_reads = refl

pub bad_line_is_named : BadLineIsNamed
bad_line_is_named = damaged_by bad_text 2 (subst (λ (read : Result (List Action) ℕ). LinesRefused (Named 1 true) v2_1 bad_text read (Damaged v2_1 2)) (sym bad_reads) refl)

-- ---- the object and its sidecars

pub absent_is_missing : AbsentIsMissing
absent_is_missing = λ limit. inl (inl (refl, refl))

pub great_is_over : GreatIsOver
great_is_over = λ limit text over. inl (inl (sized v2_1 text, over))

pub earlier_part_is_first : EarlierPartIsFirst
earlier_part_is_first = λ limit bytes over. inl (inl (sized part_1 bytes, over))

pub whole_is_read : WholeIsRead
whole_is_read = λ limit fits. record {
  means = record {
    top = record { actions = whole_actions; sidecars = [] };
    means = (whole_text, stands v2_1 whole_text, (record { means = whole_means; named = refl }, refl));
    sides = [];
    sides_mean = refl;
    all = refl;
  };
  objects = (within v2_1 whole_text limit fits, tt);
  sidecars = tt;
}

pub lacking_sidecar_is_missing : LackingSidecarIsMissing
lacking_sidecar_is_missing = λ limit fits. inr (
  record { actions = naming_actions; sidecars = side_name ∷ [] },
  ((within v2_1 naming_text limit fits, tt), (naming_text, stands v2_1 naming_text, (record { means = naming_means; named = names_side }, refl))),
  inl (refl, refl),
)

-- ---- files

not_framed : (before part : List ℕ) → IsFramed [] before part → ⊥
not_framed before part framed = none before framed.content _ framed.front framed.whole
  where
    none : (front content rest : List ℕ) → front ≡ magic ++ content → ◌≡◌ {A = List ℕ} [] (front ++ rest) → ⊥
    none front content rest begins whole =
        let no : ◌≡◌ {A = List ℕ} [] ((magic ++ content) ++ rest) = subst (λ (f : List ℕ). ◌≡◌ {A = List ℕ} [] (f ++ rest)) begins whole in cc

pub text_for_file_is_damaged : TextForFileIsDamaged
text_for_file_is_damaged = λ limit. inl (inl (within classic_1 [] limit (omega arith), ([], stands classic_1 [], inl (faults.NotParquet, not_framed, refl))))

pub codec_is_named : CodecIsNamed
unfolding known_codec
codec_is_named = λ limit bytes column fits compressed. inl (inl (within classic_1 bytes limit fits, (bytes, stands classic_1 bytes, inl (faults.Compressed column (pos 1), compressed, refl))))

pub encoding_is_named : EncodingIsNamed
encoding_is_named = λ limit bytes column code fits unread. inl (inl (within classic_1 bytes limit fits, (bytes, stands classic_1 bytes, inl (faults.Encoding column code, unread, refl))))
