-- No two chunks of a row group of a footer have one path.
use Rattle.std.proofs.Common.{◌≡◌, true, List, ℕ, [], ◌∷◌, option_map, Option, Some, None, refl, subst}
use Rattle.std.specs.List.{All}
use Rattle.std.proofs.lemmas.List.Elements.{All-nil, All-cons}
use Rattle.dk_pqmodel.specs.Footer.{◌>=◌, RowGroup, Footer, GroupFields, chunk_of, each_of, group_of, if_distinct, is_new_each, natural}
use Rattle.dk_pqmodel.specs.FooterBytes.{SpellsFooter}
use Rattle.dk_pqread.proofs.PartLaws.{none_is_not_some, some_is, some_bound, when_is}

-- the paths of the group's chunks are distinct
abbrev pub HasDistinctPaths : RowGroup → Type 0
HasDistinctPaths group = is_new_each [] group.columns ≡ true

group_distinct : (fields : GroupFields) (group : RowGroup) → group_of fields ≡ Some group → HasDistinctPaths group
group_distinct fields group h =
    let x = some_bound (fields.columns >= each_of chunk_of >= if_distinct) (λ columns. fields.rows >= natural >= λ rows. Some (record { rows = rows; columns = columns })) group h in
    let r = some_bound (fields.rows >= natural) (λ rows. Some (record { rows = rows; columns = x.0 })) group x.1.1 in
    let c = some_bound (fields.columns >= each_of chunk_of) if_distinct x.0 x.1.0 in
    let new = when_is (is_new_each [] c.0) c.0 x.0 c.1.1 in
    let made : RowGroup = record { rows = r.0; columns = x.0 } in
    let same : made ≡ group = some_is made group r.1.1 in
    subst HasDistinctPaths same (subst (λ columns. is_new_each [] columns ≡ true) new.1 new.0)

-- one more group
first_too : (rest : Option (List RowGroup)) (group : RowGroup) (groups : List RowGroup) → HasDistinctPaths group → ((more : List RowGroup) → rest ≡ Some more → All HasDistinctPaths more)
    → option_map (λ more. group ∷ more) rest ≡ Some groups → All HasDistinctPaths groups
first_too None group groups distinct others h = absurd (none_is_not_some groups h)
first_too (Some more) group groups distinct others h =
    subst (All HasDistinctPaths) (some_is (group ∷ more) groups h) (All-cons HasDistinctPaths group more distinct (others more refl))

each_distinct : (fields : List GroupFields) (groups : List RowGroup) → each_of group_of fields ≡ Some groups → All HasDistinctPaths groups
each_distinct [] groups h = subst (All HasDistinctPaths) (some_is [] groups h) (All-nil HasDistinctPaths)
each_distinct (f ∷ fs) groups h =
    let x = some_bound (group_of f) (λ group. option_map (λ more. group ∷ more) (each_of group_of fs)) groups h in
    first_too (each_of group_of fs) x.0 groups (group_distinct f x.0 x.1.0) (each_distinct fs) x.1.1

pub groups_distinct : (bytes : List ℕ) (footer : Footer) → SpellsFooter bytes footer → All HasDistinctPaths footer.groups
groups_distinct bytes footer spelled =
    let means = spelled.2 in
    let groups = some_bound (spelled.0).groups (each_of group_of) footer.groups means.groups in
    each_distinct groups.0 footer.groups groups.1.1
