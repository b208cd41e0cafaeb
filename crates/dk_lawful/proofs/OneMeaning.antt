-- Where a Parquet file means at most one list of rows, each object of a checkpoint means at most one thing.
use Rattle.std.proofs.Common.{◌≡◌, ℕ, Bool, true, false, List, [], ◌∷◌, ◌++◌, Option, Some, sym, ap, ap₂, subst, ◌∙◌}
use Rattle.dk_pqmodel.specs.FileMeans.{MeansOneList}
use Rattle.dk_model.specs.declared.action.Action.{Action}
use Rattle.dk_model.specs.CommitText.{commit_of}
use Rattle.dk_store.specs.Told.{Told}
use Rattle.dk_store.specs.Objects.{content}
use Rattle.dk_paths.specs.Places.{Place, Commit_at, Classic, Part, V2, Compacted, Hint, Sidecar, Staged, Other}
use Rattle.dk_lawful.specs.declared.segment.CheckpointRef.{CheckpointRef}
use Rattle.dk_lawful.specs.declared.segment.CheckpointRef.TheVariants as refs
use Rattle.dk_lawful.specs.CheckpointSchema.{read_fields}
use Rattle.dk_lawful.specs.CheckpointRows.{actions_of_rows}
use Rattle.dk_lawful.specs.Checkpoints.{InParquet, HasActions, sidecars_of, Top, HasTop, HasV2Top, TopMeans, SidesMean, ObjectMeans, PartsMean, ObjectsMean}
use Rattle.dk_lawful.specs.CheckpointLaws.{CheckpointMeansOne}
use Rattle.dk_lawful.proofs.Standing.{held_once}

pub one_value : {A : Type 0} (found : Option A) (x y : A) → found ≡ Some x → found ≡ Some y → x ≡ y
one_value found x y is is_other = let both : Some x ≡ Some y = sym is ∙ is_other in cc

module _ (one : MeansOneList) where
  pub actions_in_parquet : (bytes : List ℕ) (actions others : List Action) → InParquet bytes actions → InParquet bytes others → actions ≡ others
  actions_in_parquet bytes actions others means means_other =
      let rows : means.rows ≡ means_other.rows = one read_fields bytes means.rows means_other.rows means.means means_other.means in
      one_value (actions_of_rows means_other.rows) actions others (ap actions_of_rows (sym rows) ∙ means.read) means_other.read

  actions_in : (json : Bool) (bytes : List ℕ) (actions others : List Action) → HasActions json bytes actions → HasActions json bytes others → actions ≡ others
  actions_in true bytes actions others means means_other = one_value (commit_of bytes) actions others means means_other
  actions_in false bytes actions others means means_other = actions_in_parquet bytes actions others means means_other

  top_in : (json : Bool) (bytes : List ℕ) (top other : Top) → HasTop json bytes top → HasTop json bytes other → top ≡ other
  top_in json bytes top other has has_other =
      let same : top.actions ≡ other.actions = actions_in json bytes top.actions other.actions has.means has_other.means in
      let sides : top.sidecars ≡ other.sidecars =
      one_value (sidecars_of other.actions) top.sidecars other.sidecars (ap sidecars_of (sym same) ∙ has.named) has_other.named in
      λ i. record { actions = same i; sidecars = sides i }

  pub top_means : (place : Place) (bytes : List ℕ) (top other : Top) → TopMeans place bytes top → TopMeans place bytes other → top ≡ other
  top_means (Classic version) bytes top other means means_other = top_in false bytes top other means means_other
  top_means (V2 version id json) bytes top other means means_other = top_in json bytes top other means.0 means_other.0
  top_means (Part version part parts) bytes top other means means_other = top_in false bytes top other means means_other
  top_means (Commit_at version) bytes top other means means_other = absurd means
  top_means (Compacted first last) bytes top other means means_other = absurd means
  top_means Hint bytes top other means means_other = absurd means
  top_means (Sidecar name) bytes top other means means_other = absurd means
  top_means (Staged version id) bytes top other means means_other = absurd means
  top_means (Other path) bytes top other means means_other = absurd means

  module _ (events : List Told) where
    object_means : (reads : List ℕ → Top → Type 0) → ((bytes : List ℕ) (top other : Top) → reads bytes top → reads bytes other → top ≡ other)
        → (path : List ℕ) (top other : Top) → ObjectMeans events reads path top → ObjectMeans events reads path other → top ≡ other
    object_means reads once path top other (bytes, has, means) (bytes', has', means') =
        once bytes' top other (subst (λ b. reads b top) (one_value (content events path) bytes bytes' has has') means) means'

    parts_mean : (paths : List (List ℕ)) (top other : Top) → PartsMean events paths top → PartsMean events paths other → top ≡ other
    parts_mean [] top other means means_other =
        let same : top.actions ≡ other.actions = means.0 ∙ sym means_other.0 in
        let sides : top.sidecars ≡ other.sidecars = means.1 ∙ sym means_other.1 in
        λ i. record { actions = same i; sidecars = sides i }
    parts_mean (path ∷ paths) top other (own, rest, owns, rests, all, names) (own', rest', owns', rests', all', names') =
        let same_own : own ≡ own' = object_means (HasTop false) (top_in false) path own own' owns owns' in
        let same_rest : rest ≡ rest' = parts_mean paths rest rest' rests rests' in
        let same : top.actions ≡ other.actions = all ∙ ap₂ (λ (t u : Top). t.actions ++ u.actions) same_own same_rest ∙ sym all' in
        let sides : top.sidecars ≡ other.sidecars = names ∙ ap₂ (λ (t u : Top). t.sidecars ++ u.sidecars) same_own same_rest ∙ sym names' in
        λ i. record { actions = same i; sidecars = sides i }

    pub objects_mean : (checkpoint : CheckpointRef) (top other : Top) → ObjectsMean events checkpoint top → ObjectsMean events checkpoint other → top ≡ other
    objects_mean (refs.Classic version path) top other means means_other = object_means (HasTop false) (top_in false) path top other means means_other
    objects_mean (refs.Parts version parts paths) top other means means_other = parts_mean paths top other means means_other
    objects_mean (refs.V2 version path json) top other means means_other =
        object_means (HasV2Top version json) (λ bytes t u has has_other. top_in json bytes t u has.0 has_other.0) path top other means means_other

    sides_mean : (names : List (List ℕ)) (actions others : List Action) → SidesMean events names actions → SidesMean events names others → actions ≡ others
    sides_mean [] actions others means means_other = means ∙ sym means_other
    sides_mean (name ∷ names) actions others (bytes, own, rest, holds, means, rests, all) (bytes', own', rest', holds', means', rests', all') =
        let same_bytes = held_once events (Sidecar name) bytes bytes' holds holds' in
        let same_own : own ≡ own' = actions_in_parquet bytes' own own' (subst (λ b. InParquet b own) same_bytes means.0) means'.0 in
        let same_rest : rest ≡ rest' = sides_mean names rest rest' rests rests' in
        all ∙ ap₂ (λ xs ys. xs ++ ys) same_own same_rest ∙ sym all'

pub checkpoint_means_one : MeansOneList → CheckpointMeansOne
checkpoint_means_one one events checkpoint actions others means means_other =
    let same : means.top ≡ means_other.top = objects_mean one events checkpoint means.top means_other.top means.means means_other.means in
    let sides : means.sides ≡ means_other.sides =
    sides_mean one events means_other.top.sidecars means.sides means_other.sides
    (subst (λ (t : Top). SidesMean events t.sidecars means.sides) same means.sides_mean) means_other.sides_mean in
    means.all ∙ ap₂ (λ (t : Top) xs. t.actions ++ xs) same sides ∙ sym means_other.all
