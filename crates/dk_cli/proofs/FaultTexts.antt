-- No answer object has a float, so its text is the compact one.
use Rattle.std.proofs.Common.{◌≡◌, ℕ, ℤ, pos, negsuc, codes, List, false, Some, refl, ap, sym, subst, ◌∙◌}
use Rattle.std.specs.Prelude.{IfSome, option_map}
use Rattle.serde_json.specs.Data.{Data}
use Rattle.serde_json.specs.Written.{compact_text, has_float}
use Rattle.dk_model.specs.Shown.{object_with}
use Rattle.dk_engine.specs.declared.refusal.Refusal.{Refusal}
use Rattle.dk_engine.specs.declared.refusal.Refusal.TheVariants as refusals
use Rattle.dk_cli.specs.declared.status.Status.{Status}
use Rattle.dk_cli.specs.declared.status.Status.TheVariants as statuses
use Rattle.dk_cli.specs.Fault.{fault_object, fault_text, refusal_object, named_object, no_object, path_object, place_object, name_object, limit_object, conflict_object, number_object, moment_object}

-- a whole number is no float
whole_plain : (z : ℤ) → has_float (named_object (codes "tooEarly") (moment_object z)) ≡ false
unfolding named_object moment_object object_with
whole_plain (pos n) = refl
whole_plain (negsuc n) = refl

refusal_plain : (refusal : Refusal) → has_float (refusal_object refusal) ≡ false
unfolding named_object no_object path_object place_object name_object limit_object conflict_object number_object moment_object object_with
refusal_plain refusals.Store = refl
refusal_plain (refusals.Missing path) = refl
refusal_plain (refusals.Unsupported name) = refl
refusal_plain (refusals.Damaged path place) = refl
refusal_plain (refusals.Limit which value) = refl
refusal_plain refusals.OutOfMemory = refl
refusal_plain (refusals.Invalid rule) = refl
refusal_plain (refusals.NoVersion latest) = refl
refusal_plain (refusals.Taken path) = refl
refusal_plain (refusals.WinnersGone path) = refl
refusal_plain (refusals.Conflict version kind) = refl
refusal_plain (refusals.TooEarly first) = whole_plain first
refusal_plain (refusals.NothingToDo version) = refl
refusal_plain (refusals.Gone path) = refl
refusal_plain refusals.NotBegun = refl
refusal_plain (refusals.NoSpare count) = refl

fault_plain : (status : Status) → IfSome (fault_object status) (λ value. has_float value ≡ false)
unfolding named_object no_object object_with
fault_plain statuses.Done = tt
fault_plain statuses.Usage = refl
fault_plain statuses.SinkFault = refl
fault_plain statuses.SourceFault = refl
fault_plain (statuses.Refused refusal) = refusal_plain refusal

pub line_is : (status : Status) (value : Data) (line : List ℕ) → Some value ≡ fault_object status → (has_float value ≡ false → line ≡ compact_text value) → Some line ≡ fault_text status
line_is status value line is text =
    let plain : has_float value ≡ false = subst (λ o. IfSome o (λ v. has_float v ≡ false)) (sym is) (fault_plain status) in
    ap Some (text plain) ∙ ap (option_map compact_text) is
