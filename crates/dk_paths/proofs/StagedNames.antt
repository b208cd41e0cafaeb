-- The names of staged commits: what a text names is written so, and each that is written is read as itself.
use Rattle.std.proofs.Common.{◌≡◌, ℕ, ◌-◌, ◌^◌, ◌<◌, ◌≤◌, List, ◌++◌, length, refl, ap, sym, ◌∙◌, arith, codes, Bool, true, false, true≢false, if◌then◌else◌, Option, Some, None}
use Rattle.std.specs.Prelude.{nat_lt, ◌&&◌, ◌==◌}
use Rattle.std.specs.Str.{bytes_eq}
use Rattle.std.proofs.lemmas.Slice.Eq.{bytes_eq-Decides}
use Rattle.dk_paths.specs.Numbers.{digits, id_text, digits_at, uuid_at}
use Rattle.dk_paths.specs.Staged.{IsStaged, IsStagedNameOf, staged_name, staged_of}
use Rattle.dk_paths.proofs.Spelled.{SameFront, same_front, version_small}
use Rattle.dk_paths.proofs.Meanings.{digits_at-digits, uuid_at-text, length_versioned, length_id, behind_version, both, both-is, below-yes, below-is}

-- a staged commit's name by its front
pub staged_split : (version id number : ℕ) (rest text : List ℕ) → IsStaged version id → number ≤ 2 ^ 63 - 1 → digits 20 number ++ rest ≡ text
    → staged_name version id ≡ text → SameFront version number (codes "." ++ (id_text id ++ codes ".json")) rest
staged_split version id number rest text is fits read spelled =
    let below : number < 2 ^ 63 = omega arith in
    same_front 20 version number (codes "." ++ (id_text id ++ codes ".json")) rest (version_small version is.version_small) (version_small number below)
    (spelled ∙ sym read)

staged_test : (version id : ℕ) → IsStaged version id
    → (nat_lt version (2 ^ 63) && (nat_lt id (2 ^ 128) && bytes_eq (staged_name version id) (staged_name version id))) ≡ true
staged_test version id is = both _ _ (below-yes version (2 ^ 63) is.version_small)
    (both _ _ (below-yes id (2 ^ 128) is.id_small) ((bytes_eq-Decides (staged_name version id) (staged_name version id)).1 refl))

chosen : {X : Type 0} (test : Bool) (found : X) → test ≡ true → (if test then Some found else None) ≡ Some found
chosen true found is = refl
chosen false found is = absurd (true≢false (sym is))

-- each name that is written is read as itself
pub staged_of-staged_name : (version id : ℕ) → IsStaged version id → staged_of (staged_name version id) ≡ Some (version, id)
unfolding staged_of
staged_of-staged_name version id is =
    let text = staged_name version id in
    let rest = codes "." ++ (id_text id ++ codes ".json") in
    let long : length text ≡ 62 = omega (arith, length_versioned version rest, length_id id (codes ".json")) in
    let number = digits_at-digits 0 20 version text rest (version_small version is.version_small) refl in
    let read = uuid_at-text 21 id text (codes ".json") is.id_small (behind_version version rest 1) in
    rw (long, number, read) (chosen _ (version, id) (staged_test version id is))

pub staged_of-spelled : (text : List ℕ) (version id : ℕ) → IsStaged version id → staged_name version id ≡ text → staged_of text ≡ Some (version, id)
staged_of-spelled text version id is written = ap staged_of (sym written) ∙ staged_of-staged_name version id is

-- a staged commit that a text names is written so
pub record SpellsStaged (text : List ℕ) (version id : ℕ) : Type 0 where
  pub allowed : IsStaged version id
  pub written : staged_name version id ≡ text

test_spells : (version id : ℕ) (text : List ℕ) → (nat_lt version (2 ^ 63) && (nat_lt id (2 ^ 128) && bytes_eq (staged_name version id) text)) ≡ true
    → SpellsStaged text version id
test_spells version id text test =
    let first = both-is _ _ test in
    let second = both-is _ _ first.right in
    record {
      allowed = record { version_small = below-is version (2 ^ 63) first.left; id_small = below-is id (2 ^ 128) second.left };
      written = (bytes_eq-Decides (staged_name version id) text).0 second.right;
    }

-- a text that names nothing spells no staged commit
nothing_spelled : (text : List ℕ) → staged_of text ≡ None → IsStagedNameOf text None
nothing_spelled text none = λ version id is written.
    let found : staged_of text ≡ Some (version, id) = staged_of-spelled text version id is written in
    cc

named_by : (text : List ℕ) (long test : Bool) (staged : ℕ × ℕ) → (test ≡ true → SpellsStaged text staged.0 staged.1)
    → ((if long then (if test then Some staged else None) else None) ≡ None → IsStagedNameOf text None)
    → IsStagedNameOf text (if long then (if test then Some staged else None) else None)
named_by text true true staged spells none = let fact = spells refl in (fact.allowed, fact.written)
named_by text true false staged spells none = none refl
named_by text false test staged spells none = none refl

-- each text says what it names
pub IsStagedNameOf-staged_of : (text : List ℕ) → IsStagedNameOf text (staged_of text)
unfolding staged_of
IsStagedNameOf-staged_of text = named_by text (length text == 62) _ (digits_at 0 20 text, uuid_at 21 text)
    (test_spells (digits_at 0 20 text) (uuid_at 21 text) text) (nothing_spelled text)

none_by : (text : List ℕ) (found : Option (ℕ × ℕ)) → IsStagedNameOf text found → IsStagedNameOf text None → found ≡ None
none_by text None names none = refl
none_by text (Some staged) names none = absurd (none staged.0 staged.1 names.0 names.1)

-- what a text names is the one staged commit that it says
pub IsStagedNameOf-one : (text : List ℕ) (found : Option (ℕ × ℕ)) → IsStagedNameOf text found → found ≡ staged_of text
IsStagedNameOf-one text (Some staged) names = sym (staged_of-spelled text staged.0 staged.1 names.0 names.1)
IsStagedNameOf-one text None names = sym (none_by text (staged_of text) (IsStagedNameOf-staged_of text) names)
