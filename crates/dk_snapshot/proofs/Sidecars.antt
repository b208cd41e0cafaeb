-- Over a told store the listed size of a sidecar is that of the object that stands there.
use Rattle.std.proofs.Common.{◌≡◌, ℕ, List, [], ◌∷◌, map, refl, ap, ap₂, ◌∙◌, Bool, true, false, codes}
use Rattle.std.specs.Prelude.{Option, Some, None, Result, Ok, Err, IfOk, IfSome, Vec, ◌==◌, ◌&&◌, not}
use Rattle.std.specs.Global.{Global}
use Rattle.std.specs.List.{list_any}
use Rattle.std.specs.declared.alloc.AllocError.{AllocError}
use Rattle.dk_store.specs.Told.{Told, Listed}
use Rattle.dk_store.specs.Listing.{listing}
use Rattle.dk_paths.specs.Places.{ends_in_parquet, is_sidecar_name}
use Rattle.dk_listing.specs.Sizes.{size_of_name, stored_size}
use Rattle.dk_listing.proofs.Sized.{size_in_folder}
use Rattle.dk_snapshot.specs.Sidecars.{sidecar_path, AreSidecarNames, IsSidecarFolder, AreSidecarSizes}

-- a name of a sidecar has no slash
plain_of : (slash ends : Bool) → (not slash && ends) ≡ true → slash ≡ false
plain_of false ends is = refl
plain_of true ends is = absurd (let no : ◌≡◌ {A = Bool} false true = is in cc)

plain_name : (name : List ℕ) → is_sidecar_name name ≡ true → list_any (λ (byte : ℕ). byte == 47) name ≡ false
plain_name name is = plain_of (list_any (λ (byte : ℕ). byte == 47) name) (ends_in_parquet name) is

module _ (events : List Told) (entries : List Listed) (lists : IsSidecarFolder events entries) where
  one_stored : (name : List ℕ) → is_sidecar_name name ≡ true → size_of_name entries name ≡ stored_size events (sidecar_path name)
  one_stored name is =
      ap (λ (found : List Listed). size_of_name found name) lists ∙ size_in_folder events (codes "_delta_log/_sidecars") name (plain_name name is)

  all_stored : (names : List (List ℕ)) → AreSidecarNames names → map (λ (name : List ℕ). size_of_name entries name) names ≡ map (λ (name : List ℕ). stored_size events (sidecar_path name)) names
  all_stored [] are = refl
  all_stored (name ∷ names) are = ap₂ (λ (size : Option ℕ) (sizes : List (Option ℕ)). size ∷ sizes) (one_stored name are.0) (all_stored names are.1)

-- sizes by the entries of the folder are those of what stands
pub sizes_stored : (entries : List Listed) (names : List (List ℕ)) (result : Result (Vec (Option ℕ) Global) AllocError)
    → IfOk result (λ (sizes : Vec (Option ℕ) Global). sizes.items ≡ map (λ (name : List ℕ). size_of_name entries name) names)
    → (events : List Told) → IsSidecarFolder events entries → AreSidecarNames names → IfOk result (λ (sizes : Vec (Option ℕ) Global). AreSidecarSizes events names sizes.items)
sizes_stored entries names (Ok sizes) found events lists are = found ∙ all_stored events entries lists names are
sizes_stored entries names (Err e) found events lists are = tt

-- names under which a map has sizes
pub sizes_named : (known listed : List ℕ → Option ℕ) (names : List (List ℕ)) (result : Result (Vec (Option ℕ) Global) AllocError) → ((name : List ℕ) → known name ≡ listed name)
    → IfOk result (λ (sizes : Vec (Option ℕ) Global). sizes.items ≡ map (λ (name : List ℕ). known name) names)
    → IfOk result (λ (sizes : Vec (Option ℕ) Global). sizes.items ≡ map (λ (name : List ℕ). listed name) names)
sizes_named known listed names (Ok sizes) same are = are ∙ alike names
  where
    alike : (xs : List (List ℕ)) → map (λ (name : List ℕ). known name) xs ≡ map (λ (name : List ℕ). listed name) xs
    alike [] = refl
    alike (x ∷ xs) = ap₂ (λ (y : Option ℕ) (ys : List (Option ℕ)). y ∷ ys) (same x) (alike xs)
sizes_named known listed names (Err e) same are = tt

-- where the store tells its events
pub folder_sizes : (told : Option (List Told)) (entries : List Listed) (names : List (List ℕ)) (sizes : List (Option ℕ)) → IfSome told (λ events. entries ≡ listing events (codes "_delta_log/_sidecars") [])
    → ((events : List Told) → IsSidecarFolder events entries → AreSidecarNames names → AreSidecarSizes events names sizes)
    → IfSome told (λ events. AreSidecarNames names → AreSidecarSizes events names sizes)
folder_sizes None entries names sizes lists stored = tt
folder_sizes (Some events) entries names sizes lists stored = stored events lists
