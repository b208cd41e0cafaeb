-- The finite maps answer as the recursions on the events do.
use Rattle.std.proofs.Common.{◌≡◌, ℕ, cond, bytes_eq, nat_eq, nat_le, nat_lt, List, [], ◌∷◌, Option, Some, None, nat_cmp, sym, ap, ap₂, ◌∙◌, arith}
use Rattle.std.specs.FinMap.{get, get-insert, get-remove, get-empty, get-retain_keys, nat_cmp-IsAntisymmetric}
use Rattle.std.specs.Ordering.{eq_by_cmp}
use Rattle.std.specs.Cmp.{nat_cmp_total}
use Rattle.std.specs.Cmp.Lexicographic.{nat_list_cmp_total}
use Rattle.std.proofs.lemmas.Bool.Decides.{same_from_decides, nat_tests}
use Rattle.std.proofs.lemmas.Slice.Eq.{bytes_eq-Decides}
use Rattle.std.proofs.lemmas.Map.Text.{is_eq-slice_cmp}
use Rattle.dk_store.specs.Told.{Told, Made, Over, Deleted, Ratified, Forgotten}
use Rattle.dk_store.specs.Objects.{object, objects, path_cmp}
use Rattle.dk_store.specs.Standings.{standing, standings}

-- the test of a map under paths is equality
pub same_path : (p q : List ℕ) → eq_by_cmp path_cmp q p ≡ bytes_eq p q
same_path p q = is_eq-slice_cmp q p ∙ same_from_decides (bytes_eq q p) (bytes_eq p q) ((λ h. sym ((bytes_eq-Decides q p).0 h)), (λ h. (bytes_eq-Decides q p).1 (sym h))) (bytes_eq-Decides p q)

-- the object at a path is the one that the map of all objects has there
pub get-objects : (events : List Told) (path : List ℕ) → get (objects events) path ≡ object events path
get-objects [] path = get-empty path_cmp path
get-objects (Made p bytes stamp ∷ events) path = get-insert nat_list_cmp_total (objects events) p _ path ∙ ap₂ (λ b r. cond b (Some (record { bytes = bytes; stamp = stamp })) r) (same_path p path) (get-objects events path)
get-objects (Over p bytes stamp ∷ events) path = get-insert nat_list_cmp_total (objects events) p _ path ∙ ap₂ (λ b r. cond b (Some (record { bytes = bytes; stamp = stamp })) r) (same_path p path) (get-objects events path)
get-objects (Deleted p ∷ events) path = get-remove nat_list_cmp_total (objects events) p path ∙ ap₂ (λ b r. cond b None r) (same_path p path) (get-objects events path)
get-objects (Ratified version name ∷ events) path = get-objects events path
get-objects (Forgotten upto ∷ events) path = get-objects events path

-- the test of a map under versions is equality
pub same_version : (v w : ℕ) → eq_by_cmp nat_cmp w v ≡ nat_eq v w
same_version v w = grind (arith, nat_tests)

turned : (upto version : ℕ) (o : Option (List ℕ)) → cond (nat_lt upto version) o None ≡ cond (nat_le version upto) None o
turned upto version o = grind (arith, nat_tests)

-- the name of a version is the one that the map of all standing ratifications has there
pub get-standings : (events : List Told) (version : ℕ) → get (standings events) version ≡ standing events version
get-standings [] version = get-empty nat_cmp version
get-standings (Ratified v name ∷ events) version = get-insert nat_cmp_total (standings events) v name version ∙ ap₂ (λ b r. cond b (Some name) r) (same_version v version) (get-standings events version)
get-standings (Forgotten upto ∷ events) version =
    get-retain_keys (standings events) (λ v. nat_lt upto v) version (λ x e. ap (nat_lt upto) (sym (nat_cmp-IsAntisymmetric version x e)))
    ∙ turned upto version (get (standings events) version)
    ∙ ap (λ r. cond (nat_le version upto) None r) (get-standings events version)
get-standings (Made path bytes stamp ∷ events) version = get-standings events version
get-standings (Over path bytes stamp ∷ events) version = get-standings events version
get-standings (Deleted path ∷ events) version = get-standings events version
