-- One more entry of a listing in the map of sizes.
use Rattle.std.proofs.Common.{◌≡◌, ℕ, ◌+◌, ◌<◌, List, [], ◌∷◌, ◌++◌, length, map, take, get_or, Bool, true, false, true≢false, cond, refl, ap, ap₂, sym, ◌∙◌, add-one, bytes_eq}
use Rattle.std.specs.Prelude.{Option, Some, None, is_some, option_map, find}
use Rattle.std.specs.Option.{option_or}
use Rattle.std.specs.Borrow.{Bor}
use Rattle.std.specs.BTreeMap.{BTreeMap, get, Updates}
use Rattle.std.proofs.Math.Seq.{take-suc}
use Rattle.std.proofs.lemmas.List.{map_push}
use Rattle.std.proofs.lemmas.Map.Text.{is_eq-slice_cmp}
use Rattle.std.proofs.lemmas.Slice.Eq.{bytes_eq-Decides}
use Rattle.dk_store.specs.Told.{Listed}
use Rattle.dk_listing.specs.Sizes.{size_of_name}
use Rattle.dk_snapshot.specs.Sizes.{name_order, size_under, HasSizes}

-- the size of one entry, where it has the name
abbrev size_if : Listed → List ℕ → Option ℕ
size_if entry name = cond (bytes_eq entry.name name) (Some entry.size) None

size_last : (es : List Listed) (e : Listed) (name : List ℕ) → size_of_name (es ++ e ∷ []) name ≡ option_or (size_of_name es name) (size_if e name)
size_last [] e name = by (bytes_eq e.name name)
  where
    by : (t : Bool) → option_map (λ (x : Listed). x.size) (cond t (Some e) None) ≡ cond t (Some e.size) None
    by true = refl
    by false = refl
size_last (x ∷ es) e name = by (bytes_eq x.name name) (size_last es e name)
  where
    test : Listed → Bool
    test y = bytes_eq y.name name

    by : (t : Bool) → option_map (λ (y : Listed). y.size) (find (λ (y : Listed). bytes_eq y.name name) (es ++ e ∷ [])) ≡ option_or (option_map (λ (y : Listed). y.size) (find (λ (y : Listed). bytes_eq y.name name) es)) (size_if e name)
        → option_map (λ (y : Listed). y.size) (cond t (Some x) (find (λ (y : Listed). bytes_eq y.name name) (es ++ e ∷ [])))
        ≡ option_or (option_map (λ (y : Listed). y.size) (cond t (Some x) (find (λ (y : Listed). bytes_eq y.name name) es))) (size_if e name)
    by true later = refl
    by false later = later

module _ {X : Type 0} (view : X → Listed) where
  size_more : (xs : List X) (place : ℕ) (x : X) → place < length xs → x ≡ get_or xs place x → (name : List ℕ)
      → size_of_name (map view (take (place + 1) xs)) name ≡ option_or (size_of_name (map view (take place xs)) name) (size_if (view x) name)
  size_more xs place x lt is name =
      rw (add-one place, take-suc xs place x lt, ← is, map_push view (take place xs) x) (size_last (map view (take place xs)) (view x) name)

  none_first : (before here : Option ℕ) → before ≡ None → here ≡ option_or before here
  none_first before here none = rw none refl

  none_last : (before : Option ℕ) → before ≡ option_or before None
  none_last None = refl
  none_last (Some size) = refl

  some_first : (before here : Option ℕ) → is_some before ≡ true → before ≡ option_or before here
  some_first None here some = absurd (true≢false (sym some))
  some_first (Some size) here some = refl

  -- one more name
  pub sizes_more : (old new : BTreeMap (Bor (List ℕ)) ℕ) (xs : List X) (place : ℕ) (x : X) (key : Bor (List ℕ)) (size : ℕ) → place < length xs → x ≡ get_or xs place x
      → key.now ≡ (view x).name → size ≡ (view x).size → get name_order old key ≡ None → HasSizes old (map view (take place xs)) → Updates name_order old new key (Some size)
      → HasSizes new (map view (take (place + 1) xs))
  sizes_more old new xs place x key size lt is named sized absent has updates = λ name.
      let before : Option ℕ = size_of_name (map view (take place xs)) name in
      let now : size_under new name ≡ cond (bytes_eq key.now name) (Some size) (size_under old name) =
      updates.0 (record { ref_ptr = (0, 0); now = name }) ∙ ap (λ (t : Bool). cond t (Some size) (size_under old name)) (is_eq-slice_cmp key.now name) in
      let asked : cond (bytes_eq key.now name) (Some size) None ≡ size_if (view x) name = ap₂ (λ (n : List ℕ) (s : ℕ). cond (bytes_eq n name) (Some s) None) named sized in
      now ∙ ap (λ (o : Option ℕ). cond (bytes_eq key.now name) (Some size) o) (has name)
      ∙ by name before (bytes_eq key.now name) refl (λ same. sym (has name) ∙ ap (λ (n : List ℕ). size_under old n) (sym same) ∙ absent)
      ∙ ap (option_or before) asked
      ∙ sym (size_more xs place x lt is name)
    where
      by : (name : List ℕ) (before : Option ℕ) (t : Bool) → bytes_eq key.now name ≡ t → (key.now ≡ name → before ≡ None) → cond t (Some size) before ≡ option_or before (cond t (Some size) None)
      by name before true same none = none_first before (Some size) (none ((bytes_eq-Decides key.now name).0 same))
      by name before false same none = none_last before

  -- one more entry of a name that came before
  pub sizes_same : (sizes : BTreeMap (Bor (List ℕ)) ℕ) (xs : List X) (place : ℕ) (x : X) (key : Bor (List ℕ)) → place < length xs → x ≡ get_or xs place x
      → key.now ≡ (view x).name → is_some (get name_order sizes key) ≡ true → HasSizes sizes (map view (take place xs)) → HasSizes sizes (map view (take (place + 1) xs))
  sizes_same sizes xs place x key lt is named there has = λ name.
      let before : Option ℕ = size_of_name (map view (take place xs)) name in
      has name
      ∙ by name before (bytes_eq (view x).name name) refl (λ same. ap (λ (o : Option ℕ). is_some o) (sym (has name)) ∙ ap (λ (n : List ℕ). is_some (size_under sizes n)) (sym (named ∙ same)) ∙ there)
      ∙ sym (size_more xs place x lt is name)
    where
      by : (name : List ℕ) (before : Option ℕ) (t : Bool) → bytes_eq (view x).name name ≡ t → ((view x).name ≡ name → is_some before ≡ true) → before ≡ option_or before (cond t (Some (view x).size) None)
      by name before true same some = some_first before (Some (view x).size) (some ((bytes_eq-Decides (view x).name name).0 same))
      by name before false same some = none_last before
