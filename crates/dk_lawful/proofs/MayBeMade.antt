-- What is written of a checkpoint may be made.
use Rattle.std.proofs.Common.{◌≡◌, ℕ, ℤ, Bool, true, false, inl, inr, List, [], ◌∷◌, ◌++◌, map, length, Some, if◌then◌else◌, refl, sym, subst, ◌∙◌, arith, append-nil}
use Rattle.std.proofs.lemmas.Int.{ints}
use Rattle.dk_pqmodel.specs.FileMeans.{MeansOneList}
use Rattle.dk_model.specs.declared.action.Action.{Action}
use Rattle.dk_model.specs.declared.action.Action.TheVariants as action
use Rattle.dk_model.specs.declared.action.SidecarRef.{SidecarRef}
use Rattle.dk_model.specs.declared.state.TableState.{TableState}
use Rattle.dk_store.specs.Told.{Told}
use Rattle.dk_paths.specs.Places.{Place, Classic, V2, Sidecar}
use Rattle.dk_lawful.specs.Present.{Present}
use Rattle.dk_lawful.specs.History.{table_at}
use Rattle.dk_lawful.specs.Agree.{Stands}
use Rattle.dk_lawful.specs.Checkpoints.{sidecars_of, Top, TopMeans, SidesMean, Among}
use Rattle.dk_model.specs.Contents.{named_actions, canonical_with, is_later}
use Rattle.dk_lawful.specs.Contents.{has_v2, mark, classic_content, v2_content}
use Rattle.dk_lawful.specs.Shares.{files_of}
use Rattle.dk_lawful.specs.Permits.{MakesTop}
use Rattle.dk_lawful.specs.ContentLaws.{sidecars_content, WrittenOf, PartMayBeMade, ClassicMayBeMade, V2MayBeMade}
use Rattle.dk_lawful.proofs.OneMeaning.{top_means}
use Rattle.dk_lawful.proofs.ContentLaws.{all_quiet, skips_heads, skips_named, part_has_share, classic_stands, v2_stands, v2_says_version, standing_composes, share_composes}

pub part_may_be_made : PartMayBeMade
part_may_be_made events horizon version part parts state cut bytes written low high means =
    let has = part_has_share state cut part parts written.kept low high in
    record {
      published = written.published;
      share = record {
        actions = _;
        means = means;
        alone = has.1;
        share = share_composes _ state (table_at events version) part parts cut horizon horizon written.within (omega (arith, ints)) has.0 written.agrees;
      };
    }

-- each name among those of sidecars that mean something is that of one that stands
sides_stand : (events : List Told) (names : List (List ℕ)) (actions : List Action) (name : List ℕ) → SidesMean events names actions → Among name names → Present events (Sidecar name)
sides_stand events [] actions name mean among = absurd among
sides_stand events (first ∷ names) actions name mean (inl same) = subst (λ n. Present events (Sidecar n)) (sym same) (mean.0, mean.3)
sides_stand events (first ∷ names) actions name mean (inr among) = sides_stand events names mean.2 name mean.5 among

-- one object that means this may be made, where its sidecars mean something and all stands for the state that was opened
makes_top : MeansOneList → (events : List Told) (horizon : ℤ) (place : Place) (version : ℕ) (state : TableState) (cut : ℤ) (bytes : List ℕ) (top : Top) (sides : List Action)
    → WrittenOf events horizon version state cut → TopMeans place bytes top → SidesMean events top.sidecars sides → Stands (top.actions ++ sides) state cut
    → MakesTop events place version bytes horizon
makes_top one events horizon place version state cut bytes top sides written means sides_mean stands = record {
  published = written.published;
  top = top;
  means = means;
  sides = sides;
  sides_mean = sides_mean;
  stands = standing_composes (top.actions ++ sides) state (table_at events version) cut horizon horizon written.within (omega (arith, ints)) stands written.agrees;
  named = λ name (other, other_means, among).
      sides_stand events top.sidecars sides name sides_mean (subst (λ (t : Top). Among name t.sidecars) (top_means one place bytes other top other_means means) among);
}

classic_quiet : (state : TableState) (version : ℕ) (cut : ℤ) → sidecars_of (classic_content state version cut) ≡ Some []
classic_quiet state version cut = by (has_v2 state)
  where
    by : (marks : Bool) → sidecars_of ((if marks then mark version ∷ [] else []) ++ canonical_with state (is_later cut) (files_of state)) ≡ Some []
    by true = all_quiet state cut (files_of state)
    by false = all_quiet state cut (files_of state)

pub classic_may_be_made : MeansOneList → ClassicMayBeMade
classic_may_be_made one events horizon version state cut bytes written means =
    makes_top one events horizon (Classic version) version state cut bytes (record { actions = classic_content state version cut; sidecars = [] }) [] written
    (record { means = means; named = classic_quiet state version cut }) refl
    (subst (λ (actions : List Action). Stands actions state cut) (sym (append-nil (classic_content state version cut))) (classic_stands state version cut written.kept))

v2_names : (state : TableState) (version : ℕ) (cut : ℤ) (references : List SidecarRef)
    → sidecars_of (v2_content state version cut references) ≡ sidecars_of (map (λ r. action.Sidecar r) references)
v2_names state version cut [] = all_quiet state cut (files_of state)
v2_names state version cut (reference ∷ references) =
    skips_heads sidecars_of state (named_actions state ++ map (λ r. action.Sidecar r) (reference ∷ references)) (λ p more. refl) (λ m more. refl)
    ∙ skips_named sidecars_of state (map (λ r. action.Sidecar r) (reference ∷ references)) (λ e more. refl) (λ e more. refl)

pub v2_may_be_made : MeansOneList → V2MayBeMade
v2_may_be_made one events horizon version id json state cut references names bytes written means named sides_mean =
    makes_top one events horizon (V2 version id json) version state cut bytes (record { actions = v2_content state version cut references; sidecars = names })
    (sidecars_content state cut (length references) (length references)) written
    (record { means = means; named = v2_names state version cut references ∙ named }, v2_says_version state version cut references) sides_mean
    (v2_stands state version cut references written.kept)
