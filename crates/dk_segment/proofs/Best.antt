-- The greatest and the least of a loop from the left are those of the list.
use Rattle.std.proofs.Common.{◌≡◌, ℕ, ◌+◌, ◌<◌, List, [], ◌∷◌, ◌++◌, length, map, take, get_or, Bool, true, false, if◌then◌else◌, refl, sym, ap, ap₂, subst, ◌∙◌, arith, add-one, inl, inr, max, min}
use Rattle.std.specs.Prelude.{Option, Some, None, IfSome, is_some, option_and_then, filter}
use Rattle.std.specs.List.{AllByRecursion, cons_option, filter_map, fold}
use Rattle.std.proofs.Math.Seq.{take-suc}
use Rattle.std.proofs.lemmas.Bool.{cases_lt}
use Rattle.std.proofs.lemmas.List.Sums.{fold-append}
use Rattle.dk_paths.specs.declared.log_name.LogName.{LogName}
use Rattle.dk_paths.specs.Places.{Place, Staged}
use Rattle.dk_lawful.specs.Segments.{greatest, least, greater, lesser}
use Rattle.dk_listing.specs.declared.named.Named.{Named}
use Rattle.dk_listing.specs.declared.named.Staged as entries
use Rattle.dk_listing.specs.Newest.{later, newest_by, complete_version, complete_names}
use Rattle.dk_listing.specs.Presence.{named_place}
use Rattle.dk_segment.specs.Places.{earlier, earliest_by}

-- ---- any such loop

module _ (join : Option ℕ → Option ℕ → Option ℕ) (left : (o : Option ℕ) → join None o ≡ o) (right : (o : Option ℕ) → join o None ≡ o)
    (assoc : (a b c : Option ℕ) → join (join a b) c ≡ join a (join b c)) (all : List ℕ → Option ℕ) (none : all [] ≡ None)
    (more : (n : ℕ) (ns : List ℕ) → all (n ∷ ns) ≡ join (Some n) (all ns)) where
  of_first : (o : Option ℕ) (ns : List ℕ) → all (cons_option o ns) ≡ join o (all ns)
  of_first None ns = sym (left (all ns))
  of_first (Some n) ns = more n ns

  folds : {X : Type 0} (f : X → Option ℕ) (best : Option ℕ) (xs : List X) → fold (λ b x. join b (f x)) best xs ≡ join best (all (filter_map f xs))
  folds f best [] = sym (right best) ∙ ap (join best) (sym none)
  folds f best (x ∷ xs) = folds f (join best (f x)) xs ∙ assoc best (f x) (all (filter_map f xs)) ∙ ap (join best) (sym (of_first (f x) (filter_map f xs)))

  -- the names that begin complete checkpoints
  over_complete : (has : ℕ → ℕ → ℕ → Bool) (g : LogName → Option ℕ) (best : Option ℕ) (log : List Named)
      → fold (λ b name. join b (g name)) best (complete_names has log) ≡ fold (λ b (named : Named). join b (if is_some (complete_version has named.name) then g named.name else None)) best log
  over_complete has g best [] = refl
  over_complete has g best (named ∷ log) = by (is_some (complete_version has named.name)) (λ b. over_complete has g b log)
    where
      rest : List Named
      rest = filter (λ (n : Named). is_some (complete_version has n.name)) log

      later_log : Option ℕ → Option ℕ
      later_log b = fold (λ b (n : Named). join b (if is_some (complete_version has n.name) then g n.name else None)) b log

      by : (begins : Bool) → ((b : Option ℕ) → fold (λ b name. join b (g name)) b (complete_names has log) ≡ later_log b)
          → fold (λ b name. join b (g name)) best (map (λ (n : Named). n.name) (if begins then named ∷ rest else rest)) ≡ later_log (join best (if begins then g named.name else None))
      by true same = same (join best (g named.name))
      by false same = same best ∙ ap later_log (sym (right best))

-- ---- the greatest

pub later_right : (o : Option ℕ) → later o None ≡ o
later_right None = refl
later_right (Some n) = refl

later_assoc : (a b c : Option ℕ) → later (later a b) c ≡ later a (later b c)
later_assoc None b c = refl
later_assoc (Some a) None c = refl
later_assoc (Some a) (Some b) None = refl
later_assoc (Some a) (Some b) (Some c) = ap Some (let e : max (max a b) c ≡ max a (max b c) = omega arith in e)

greater_later : (n : ℕ) (o : Option ℕ) → Some (greater n o) ≡ later (Some n) o
greater_later n None = refl
greater_later n (Some m) = refl

pub newest_is_greatest : {X : Type 0} (f : X → Option ℕ) (xs : List X) → newest_by f xs ≡ greatest (filter_map f xs)
newest_is_greatest f xs = folds later (λ o. refl) later_right later_assoc greatest refl (λ n ns. greater_later n (greatest ns)) f None xs

pub newest_of_complete : (has : ℕ → ℕ → ℕ → Bool) (g : LogName → Option ℕ) (log : List Named)
    → newest_by g (complete_names has log) ≡ newest_by (λ (named : Named). if is_some (complete_version has named.name) then g named.name else None) log
newest_of_complete has g log = over_complete later (λ o. refl) later_right later_assoc greatest refl (λ n ns. greater_later n (greatest ns)) has g None log

-- one more at the end
pub newest_more : {X : Type 0} (f : X → Option ℕ) (xs : List X) (place : ℕ) (x : X) → place < length xs → x ≡ get_or xs place x → newest_by f (take (place + 1) xs) ≡ later (newest_by f (take place xs)) (f x)
newest_more f xs place x lt is = rw (add-one place, take-suc xs place x lt, ← is) (fold-append (λ b y. later b (f y)) None (take place xs) (x ∷ []))

-- ---- the least

earlier_right : (o : Option ℕ) → earlier o None ≡ o
earlier_right None = refl
earlier_right (Some n) = refl

earlier_assoc : (a b c : Option ℕ) → earlier (earlier a b) c ≡ earlier a (earlier b c)
earlier_assoc None b c = refl
earlier_assoc (Some a) None c = refl
earlier_assoc (Some a) (Some b) None = refl
earlier_assoc (Some a) (Some b) (Some c) = ap Some (let e : min (min a b) c ≡ min a (min b c) = omega arith in e)

lesser_earlier : (n : ℕ) (o : Option ℕ) → Some (lesser n o) ≡ earlier (Some n) o
lesser_earlier n None = refl
lesser_earlier n (Some m) = refl

pub earliest_is_least : {X : Type 0} (f : X → Option ℕ) (xs : List X) → earliest_by f xs ≡ least (filter_map f xs)
earliest_is_least f xs = folds earlier (λ o. refl) earlier_right earlier_assoc least refl (λ n ns. lesser_earlier n (least ns)) f None xs

pub earliest_of_complete : (has : ℕ → ℕ → ℕ → Bool) (g : LogName → Option ℕ) (log : List Named)
    → earliest_by g (complete_names has log) ≡ earliest_by (λ (named : Named). if is_some (complete_version has named.name) then g named.name else None) log
earliest_of_complete has g log = over_complete earlier (λ o. refl) earlier_right earlier_assoc least refl (λ n ns. lesser_earlier n (least ns)) has g None log

-- ---- what all have, the greatest has

later_has : (P : ℕ → Type 0) (one other : Option ℕ) → IfSome one P → IfSome other P → IfSome (later one other) P
later_has P None other first second = second
later_has P (Some one) None first second = first
later_has P (Some one) (Some other) first second = elim (cases_lt one other) [
  | inl less ↦ subst P (let e : other ≡ max one other = omega arith in e) second
  | inr most ↦ subst P (let e : one ≡ max one other = omega arith in e) first
]

fold_has : {X : Type 0} (P : ℕ → Type 0) (f : X → Option ℕ) (best : Option ℕ) (xs : List X) → IfSome best P → AllByRecursion (λ x. IfSome (f x) P) xs → IfSome (fold (λ b x. later b (f x)) best xs) P
fold_has P f best [] has all = has
fold_has P f best (x ∷ xs) has all = fold_has P f (later best (f x)) xs (later_has P best (f x) has all.0) all.1

pub newest_has : {X : Type 0} (P : ℕ → Type 0) (f : X → Option ℕ) (xs : List X) → AllByRecursion (λ x. IfSome (f x) P) xs → IfSome (newest_by f xs) P
newest_has P f xs all = fold_has P f None xs tt all

-- ---- the places of a listing

staged_none : (f : Place → Option ℕ) → ((version id : ℕ) → f (Staged version id) ≡ None) → (staged : List entries.Staged)
    → filter_map f (map (λ (s : entries.Staged). Staged s.version s.id) staged) ≡ []
staged_none f none [] = refl
staged_none f none (s ∷ staged) = ap₂ cons_option (none s.version s.id) (staged_none f none staged)

-- what a function on places gives of them, in the log's folder alone, is what one on names gives
pub of_places : (f : Place → Option ℕ) (g : LogName → Option ℕ) → ((name : LogName) → option_and_then f (named_place name) ≡ g name) → ((version id : ℕ) → f (Staged version id) ≡ None)
    → (log : List Named) (staged : List entries.Staged)
    → filter_map f (filter_map (λ (named : Named). named_place named.name) log ++ map (λ (s : entries.Staged). Staged s.version s.id) staged) ≡ filter_map (λ (named : Named). g named.name) log
of_places f g same none [] staged = staged_none f none staged
of_places f g same none (named ∷ log) staged = by (named_place named.name) (g named.name) (same named.name) (of_places f g same none log staged)
  where
    rest : List Place
    rest = filter_map (λ (n : Named). named_place n.name) log

    behind : List Place
    behind = map (λ (s : entries.Staged). Staged s.version s.id) staged

    by : (place : Option Place) (found : Option ℕ) → option_and_then f place ≡ found → filter_map f (rest ++ behind) ≡ filter_map (λ (n : Named). g n.name) log
        → filter_map f (cons_option place rest ++ behind) ≡ cons_option found (filter_map (λ (n : Named). g n.name) log)
    by None found is later_names = later_names ∙ ap (λ (o : Option ℕ). cons_option o (filter_map (λ (n : Named). g n.name) log)) is
    by (Some place) found is later_names = ap₂ cons_option is later_names
