-- What an object that was made field by field has at a key.
use Rattle.std.proofs.Common.{◌≡◌, ℕ, Bool, true, false, List, [], ◌∷◌, Option, Some, None, bytes_eq, refl, sym, ap, ◌∙◌}
use Rattle.std.proofs.lemmas.Slice.Eq.{bytes_eq-Decides}
use Rattle.serde_json.specs.Data.{Data, Members, no_members, put}
use Rattle.serde_json.specs.Find.{get_member}
use Rattle.serde_json.proofs.Views.{get_member-put, get_member-put_other}
use Rattle.dk_model.specs.Fields.{present, field}
use Rattle.dk_model.specs.Shown.{Field, with_field, with_fields, object_with}

-- the value of a field, where the key is its own, and else what was found before
abbrev pub chosen : Bool → Option Data → Option Data → Option Data
chosen true (Some d) found = Some d
chosen true None found = found
chosen false o found = found

abbrev pub found_in : List ℕ → List Field → Option Data → Option Data
found_in q [] found = found
found_in q (f ∷ fs) found = found_in q fs (chosen (bytes_eq q f.0) f.1 found)

true≢false : true ≡ false → ⊥
true≢false e = cc

at_put : (b : Bool) (q k : List ℕ) (d : Data) (ms : Members) → bytes_eq q k ≡ b → get_member q (put k d ms) ≡ chosen b (Some d) (get_member q ms)
at_put true q k d ms e = let same : q ≡ k = (bytes_eq-Decides q k).0 e in ap (λ x. get_member x (put k d ms)) same ∙ get_member-put k d ms
at_put false q k d ms e = get_member-put_other q k d ms (λ same. true≢false (sym ((bytes_eq-Decides q k).1 same) ∙ e))

skipped : (b : Bool) (found : Option Data) → found ≡ chosen b None found
skipped true found = refl
skipped false found = refl

at_field : (q k : List ℕ) (o : Option Data) (ms : Members) → get_member q (with_field k o ms) ≡ chosen (bytes_eq q k) o (get_member q ms)
at_field q k None ms = skipped (bytes_eq q k) (get_member q ms)
at_field q k (Some d) ms = at_put (bytes_eq q k) q k d ms refl

at_fields : (q : List ℕ) (fs : List Field) (ms : Members) → get_member q (with_fields fs ms) ≡ found_in q fs (get_member q ms)
at_fields q [] ms = refl
at_fields q (f ∷ fs) ms = at_fields q fs (with_field f.0 f.1 ms) ∙ ap (found_in q fs) (at_field q f.0 f.1 ms)

pub found : (q : List ℕ) (fs : List Field) → field q (object_with fs) ≡ present (found_in q fs None)
unfolding object_with
found q fs = ap present (at_fields q fs no_members)
