-- Each action of a classic checkpoint can be written and read back.
use Rattle.std.proofs.Common.{◌≡◌, ℕ, ℤ, ◌<◌, ◌^◌, Bool, true, false, List, [], ◌∷◌, ◌++◌, map, Option, Some, None, filter, if◌then◌else◌, refl}
use Rattle.std.specs.Prelude.{IfSome}
use Rattle.std.specs.List.{AllByRecursion, list_any}
use Rattle.std.specs.Option.{option_to_list}
use Rattle.std.specs.FinMap.{entries}
use Rattle.std.proofs.lemmas.Bool.{or_parts}
use Rattle.dk_model.specs.declared.action.Action.{Action}
use Rattle.dk_model.specs.declared.action.Action.TheVariants as action
use Rattle.dk_model.specs.declared.action.AddFile.{AddFile}
use Rattle.dk_model.specs.declared.action.Protocol.{Protocol}
use Rattle.dk_model.specs.declared.action.Metadata.{Metadata}
use Rattle.dk_model.specs.declared.state.TableState.{TableState}
use Rattle.dk_model.specs.Ranges.{IsProtocolInRange}
use Rattle.dk_model.specs.ReadBack.{IsReadable, is_written}
use Rattle.dk_model.specs.Contents.{heads, adds, removals, removal, recorded, configured, named_actions, canonical_with, is_later}
use Rattle.dk_model.specs.WellKept.{IsWellKept}
use Rattle.dk_lawful.specs.Contents.{has_v2, mark, classic_content}
use Rattle.dk_lawful.specs.Shares.{files_of}
use Rattle.dk_ckwrite.specs.Files.{HasNoVectors}

both : (P : Action → Type 0) (xs ys : List Action) → AllByRecursion P xs → AllByRecursion P ys → AllByRecursion P (xs ++ ys)
both P [] ys h k = k
both P (x ∷ xs) ys h k = (h.0, both P xs ys h.1 k)

-- what holds of each that is made, whatever it is made of
each_made : {E : Type 0} (P : Action → Type 0) (act : E → Action) → ((e : E) → P (act e)) → (es : List E) → AllByRecursion P (map act es)
each_made P act h [] = tt
each_made P act h (e ∷ es) = (h e, each_made P act h es)

-- ---- readable

of_protocol : (p : Option Protocol) → IfSome p IsProtocolInRange → AllByRecursion IsReadable (map (λ p. action.Protocol p) (option_to_list p))
of_protocol None h = tt
of_protocol (Some p) h = (record { versions = h; no_vector = refl }, tt)

of_metadata : (m : Option Metadata) → AllByRecursion IsReadable (map (λ m. action.Metadata m) (option_to_list m))
of_metadata None = tt
of_metadata (Some m) = (record { versions = tt; no_vector = refl }, tt)

of_files : (files : List (List ℕ × AddFile)) → list_any (λ file. file.1.vector) files ≡ false → AllByRecursion IsReadable (adds files)
of_files [] h = tt
of_files (file ∷ files) h = let parts = or_parts file.1.vector (list_any (λ file. file.1.vector) files) h in (record { versions = tt; no_vector = parts.0 }, of_files files parts.1)

of_names : (state : TableState) → AllByRecursion IsReadable (named_actions state)
of_names state =
    both IsReadable (map recorded (entries state.applications)) (map configured (entries state.domains)) (each_made IsReadable recorded (λ e. record { versions = tt; no_vector = refl }) (entries state.applications))
    (each_made IsReadable configured (λ e. record { versions = tt; no_vector = refl }) (entries state.domains))

of_all : (state : TableState) (cut : ℤ) → IsWellKept state → HasNoVectors state → AllByRecursion IsReadable (canonical_with state (is_later cut) (files_of state))
of_all state cut kept clear =
    both IsReadable (heads state) (adds (files_of state) ++ (removals state (is_later cut) ++ named_actions state))
    (both IsReadable (map (λ p. action.Protocol p) (option_to_list state.protocol)) (map (λ m. action.Metadata m) (option_to_list state.metadata)) (of_protocol state.protocol kept.protocol) (of_metadata state.metadata))
    (both IsReadable (adds (files_of state)) (removals state (is_later cut) ++ named_actions state) (of_files (files_of state) clear)
    (both IsReadable (removals state (is_later cut)) (named_actions state) (each_made IsReadable removal (λ e. record { versions = tt; no_vector = refl }) (filter (is_later cut) (entries state.tombstones))) (of_names state)))

of_mark : (marks : Bool) (version : ℕ) → version < 2 ^ 63 → AllByRecursion IsReadable (if marks then mark version ∷ [] else [])
of_mark true version h = (record { versions = record { version = h }; no_vector = refl }, tt)
of_mark false version h = tt

pub classic_readable : (state : TableState) (version : ℕ) (cut : ℤ) → IsWellKept state → HasNoVectors state → version < 2 ^ 63 → AllByRecursion IsReadable (classic_content state version cut)
classic_readable state version cut kept clear h =
    both IsReadable (if has_v2 state then mark version ∷ [] else []) (canonical_with state (is_later cut) (files_of state)) (of_mark (has_v2 state) version h) (of_all state cut kept clear)

-- ---- each has a line, and so a row

abbrev HasLine : Action → Type 0
HasLine a = is_written a ≡ true

line_protocol : (p : Option Protocol) → AllByRecursion HasLine (map (λ p. action.Protocol p) (option_to_list p))
line_protocol p = each_made HasLine (λ p. action.Protocol p) (λ p. refl) (option_to_list p)

line_metadata : (m : Option Metadata) → AllByRecursion HasLine (map (λ m. action.Metadata m) (option_to_list m))
line_metadata m = each_made HasLine (λ m. action.Metadata m) (λ m. refl) (option_to_list m)

line_mark : (marks : Bool) (version : ℕ) → AllByRecursion HasLine (if marks then mark version ∷ [] else [])
line_mark true version = (refl, tt)
line_mark false version = tt

line_all : (state : TableState) (version : ℕ) (cut : ℤ) → AllByRecursion HasLine (classic_content state version cut)
line_all state version cut =
    both HasLine (if has_v2 state then mark version ∷ [] else []) (canonical_with state (is_later cut) (files_of state)) (line_mark (has_v2 state) version)
    (both HasLine (heads state) (adds (files_of state) ++ (removals state (is_later cut) ++ named_actions state))
    (both HasLine (map (λ p. action.Protocol p) (option_to_list state.protocol)) (map (λ m. action.Metadata m) (option_to_list state.metadata)) (line_protocol state.protocol) (line_metadata state.metadata))
    (both HasLine (adds (files_of state)) (removals state (is_later cut) ++ named_actions state) (each_made HasLine (λ file. action.Add file.1) (λ e. refl) (files_of state))
    (both HasLine (removals state (is_later cut)) (named_actions state) (each_made HasLine removal (λ e. refl) (filter (is_later cut) (entries state.tombstones)))
    (both HasLine (map recorded (entries state.applications)) (map configured (entries state.domains)) (each_made HasLine recorded (λ e. refl) (entries state.applications)) (each_made HasLine configured (λ e. refl) (entries state.domains))))))

all_kept : (xs : List Action) → AllByRecursion HasLine xs → filter is_written xs ≡ xs
all_kept [] h = refl
all_kept (x ∷ xs) h = rw (h.0, all_kept xs h.1) refl

pub classic_written : (state : TableState) (version : ℕ) (cut : ℤ) → filter is_written (classic_content state version cut) ≡ classic_content state version cut
classic_written state version cut = all_kept (classic_content state version cut) (line_all state version cut)
