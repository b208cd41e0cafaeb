-- What is answered of a file by what its row groups mean.
use Rattle.std.proofs.Common.{◌≡◌, ℕ, [], ◌∷◌, List, length, map, true, false, Err, refl, sym, ap, subst, ◌∙◌, arith}
use Rattle.std.specs.List.{All}
use Rattle.std.proofs.lemmas.List.Elements.{All-nil, All-cons, All-head, All-tail}
use Rattle.dk_pqmodel.specs.Shape.{Fields}
use Rattle.dk_pqmodel.specs.Datum.{Cells}
use Rattle.dk_pqmodel.specs.Footer.{Footer, RowGroup}
use Rattle.dk_pqmodel.specs.FooterBytes.{IsFramed, HasFooter}
use Rattle.dk_pqmodel.specs.FileMeans.{HaveRows, FileMeans, all_rows, rows_in}
use Rattle.dk_pqmodel.specs.Projection.{Plans, projection, first_misfit}
use Rattle.dk_pqmodel.specs.declared.fault.PqFault.{PqFault}
use Rattle.dk_pqmodel.specs.declared.fault.PqFault.TheVariants.{NotParquet, Shape, Compressed, Encoding, Broken, OutOfMemory}
use Rattle.dk_pqmeta.specs.View.{group_view}
use Rattle.dk_pqmeta.specs.declared.footer.RowGroup as code
use Rattle.dk_pqmeta.proofs.Footers.{one_footer}
use Rattle.dk_pqmeta.proofs.Framing.{framed_once}
use Rattle.dk_pqmodel.specs.Faults.{IsUnopposed, IsRefused, columns_read}
use Rattle.dk_pqread.specs.Meanings.{RefusesMeaning}
use Rattle.dk_pqmodel.specs.Reads.{IsBroken, Reads}
use Rattle.dk_pqread.specs.RowsMeaning.{GroupsMean}
use Rattle.dk_pqmodel.specs.Scans.{first_compressed, first_unread}
use Rattle.dk_pqread.proofs.Before.{front_is}
use Rattle.dk_pqread.specs.Counts.{counts_agree}
use Rattle.dk_pqread.proofs.CountsAgree.{rows_more, counts_hold}
use Rattle.dk_pqread.proofs.DistinctPaths.{HasDistinctPaths, groups_distinct}
use Rattle.dk_pqread.proofs.Gathering.{groups_count}
use Rattle.dk_pqread.proofs.PartLaws.{none_is_not_some}

-- a file is framed once
pub before_once : (bytes before part other more : List ℕ) → IsFramed bytes before part → IsFramed bytes other more → before ≡ other
before_once bytes before part other more f g =
    sym (front_is bytes before part f (length part) refl) ∙ front_is bytes other more g (length part) (ap length (framed_once bytes before part other more f g))

-- shares of the same groups have as many rows
same_count : (before : List ℕ) (plans : Plans) (groups : List RowGroup) (a b : List Cells) → HaveRows before plans groups a → HaveRows before plans groups b → rows_in (all_rows a) ≡ rows_in (all_rows b)
same_count before plans [] [] [] f g = refl
same_count before plans [] [] (y ∷ b) f g = absurd g
same_count before plans [] (x ∷ a) b f g = absurd f
same_count before plans (group ∷ groups) [] b f g = absurd f
same_count before plans (group ∷ groups) (x ∷ a) [] f g = absurd g
same_count before plans (group ∷ groups) (x ∷ a) (y ∷ b) f g =
    let first : rows_in x ≡ rows_in y = f.0.count ∙ sym g.0.count in
    let rest : rows_in (all_rows a) ≡ rows_in (all_rows b) = same_count before plans groups a b f.1 g.1 in
    rows_more x (all_rows a) ∙ omega (arith, first, rest, rows_more y (all_rows b))

-- what is refused before a value is read
pub opening_refused : (wanted : Fields) (bytes : List ℕ) (fault : PqFault) → IsRefused wanted bytes fault → Reads wanted bytes (Err fault)
opening_refused wanted bytes NotParquet h = h
opening_refused wanted bytes OutOfMemory h = tt
opening_refused wanted bytes (Shape c) h = h
opening_refused wanted bytes (Compressed c n) h = h
opening_refused wanted bytes (Encoding c n) h = h
opening_refused wanted bytes Broken h = record {
  nothing = λ rows m. h.1 m.footer (m.before, m.part, m.framed, m.spelled);
  framed = h.0;
  fitting = λ column d. h.1 d.footer d.has;
  plain = λ column codec d. h.1 d.footer d.has;
  read = λ column code d. h.1 d.footer (d.before, d.part, d.framed, d.spelled);
}

module _ (wanted : Fields) (bytes before : List ℕ) (footer : Footer) (clear : IsUnopposed wanted bytes before footer) where
  has : HasFooter bytes footer
  has = (before, clear.part, clear.framed, clear.spelled)

  -- nothing stands against the file, and no rows are meant
  broken : ((rows : Cells) → FileMeans wanted bytes rows → ⊥) → IsBroken wanted bytes
  broken nothing = record {
    nothing = nothing;
    framed = (before, clear.part, clear.framed);
    fitting = λ column d. (
        let same = one_footer bytes footer d.footer has d.has in
        none_is_not_some d.path (sym clear.fitting ∙ ap (λ (f : Footer). first_misfit wanted f.fields) same ∙ d.first));
    plain = λ column codec d. (
        let same = one_footer bytes footer d.footer has d.has in
        none_is_not_some (d.path, codec) (sym clear.plain ∙ ap (λ (f : Footer). first_compressed (columns_read wanted f) f.groups) same ∙ d.first));
    read = λ column code d. (
        let same = one_footer bytes footer d.footer has (d.before, d.part, d.framed, d.spelled) in
        let front = before_once bytes before clear.part d.before d.part clear.framed d.framed in
        none_is_not_some (d.path, code)
        (sym clear.read ∙ ap (λ (f : Footer). first_unread before (columns_read wanted f) f.groups) same ∙ ap (λ b. first_unread b (columns_read wanted d.footer) d.footer.groups) front ∙ d.first));
  }

  -- what the file means is what its groups mean, and so many rows as the footer says
  groups_mean : (rows : Cells) → FileMeans wanted bytes rows → GroupsMean before (projection wanted footer.fields) footer.groups rows × (rows_in rows ≡ footer.rows)
  groups_mean rows m =
      let same : m.footer ≡ footer = one_footer bytes m.footer footer (m.before, m.part, m.framed, m.spelled) has in
      let front : m.before ≡ before = before_once bytes m.before m.part before clear.part m.framed clear.framed in
      let all : GroupsMean m.before (projection wanted m.footer.fields) m.footer.groups rows = record { shares = m.shares; held = m.held; widened = m.widened } in
      let count : rows_in rows ≡ m.footer.rows = groups_count m.before (projection wanted m.footer.fields) m.footer.groups rows all ∙ m.count in (
        subst (λ b. GroupsMean b (projection wanted footer.fields) footer.groups rows) front (subst (λ (f : Footer). GroupsMean m.before (projection wanted f.fields) f.groups rows) same all),
        count ∙ ap (λ (f : Footer). f.rows) same,
      )

  pub file_refused : (fault : PqFault) → RefusesMeaning fault (GroupsMean before (projection wanted footer.fields) footer.groups) → Reads wanted bytes (Err fault)
  file_refused Broken h = broken (λ rows m. h rows (groups_mean rows m).0)
  file_refused OutOfMemory h = tt
  file_refused NotParquet h = absurd h
  file_refused (Shape c) h = absurd h
  file_refused (Compressed c n) h = absurd h
  file_refused (Encoding c n) h = absurd h

  -- counts that don't go together are those of no rows
  pub counts_refused : counts_agree (columns_read wanted footer) footer.groups footer.rows ≡ false → IsBroken wanted bytes
  counts_refused differ =
      broken
      (λ rows m. (
      let mean = groups_mean rows m in
      let count = sym (groups_count before (projection wanted footer.fields) footer.groups rows mean.0) ∙ mean.1 in
      let agree = counts_hold before (projection wanted footer.fields) footer.groups mean.0.shares footer.rows (groups_distinct clear.part footer clear.spelled) mean.0.held count in
      let never : false ≡ true = sym differ ∙ agree in
      cc))

  module _ (rows : Cells) (all : GroupsMean before (projection wanted footer.fields) footer.groups rows) where
    pub file_found : rows_in rows ≡ footer.rows → FileMeans wanted bytes rows
    file_found count = record {
      before = before;
      part = clear.part;
      framed = clear.framed;
      footer = footer;
      spelled = clear.spelled;
      fitting = clear.fitting;
      shares = all.shares;
      held = all.held;
      count = sym (groups_count before (projection wanted footer.fields) footer.groups rows all) ∙ count;
      widened = all.widened;
    }

    pub other_rows : (rows_in rows ≡ footer.rows → ⊥) → IsBroken wanted bytes
    other_rows differs =
        broken
        (λ others m. (
        let mean = groups_mean others m in
        differs
        (groups_count before (projection wanted footer.fields) footer.groups rows all ∙ same_count before (projection wanted footer.fields) footer.groups all.shares mean.0.shares all.held mean.0.held
        ∙ sym (groups_count before (projection wanted footer.fields) footer.groups others mean.0) ∙ mean.1)))

-- ---- the same under other names

pub mean_as : {b c : List ℕ} {ps qs : Plans} {gs hs : List RowGroup} → b ≡ c → ps ≡ qs → gs ≡ hs → (rows : Cells) → GroupsMean b ps gs rows → GroupsMean c qs hs rows
mean_as {b} {c} {ps} {qs} {gs} {hs} e f g rows h =
    subst (λ x. GroupsMean c qs x rows) g (subst (λ x. GroupsMean c x gs rows) f (subst (λ x. GroupsMean x ps gs rows) e h))

pub refused_as : {b c : List ℕ} {ps qs : Plans} {gs hs : List RowGroup} (fault : PqFault) → b ≡ c → ps ≡ qs → gs ≡ hs → RefusesMeaning fault (GroupsMean b ps gs) → RefusesMeaning fault (GroupsMean c qs hs)
refused_as {b} {c} {ps} {qs} {gs} {hs} fault e f g h =
    subst (λ x. RefusesMeaning fault (GroupsMean c qs x)) g (subst (λ x. RefusesMeaning fault (GroupsMean c x gs)) f (subst (λ x. RefusesMeaning fault (GroupsMean x ps gs)) e h))

pub all_viewed : (groups : List code.RowGroup) → All HasDistinctPaths (map group_view groups) → All (λ group. HasDistinctPaths (group_view group)) groups
all_viewed [] h = All-nil (λ group. HasDistinctPaths (group_view group))
all_viewed (g ∷ gs) h =
    All-cons (λ group. HasDistinctPaths (group_view group)) g gs (All-head HasDistinctPaths (group_view g) (map group_view gs) h) (all_viewed gs (All-tail HasDistinctPaths (group_view g) (map group_view gs) h))
