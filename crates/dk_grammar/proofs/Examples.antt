-- Published and hand-computed bytes under the definitions.
use Rattle.std.proofs.Common.{◌≡◌, pos, negsuc, [], ◌∷◌, refl}
use Rattle.dk_grammar.specs.Digits.{number_of}
use Rattle.dk_grammar.specs.Plain.{plain_bytes, int32, int64, chars}
use Rattle.dk_grammar.specs.Runs.{repeated, packed, header_of}

-- the values 0 to 7 of three bits, as the Parquet format packs them
zero_to_seven : number_of 8 (0 ∷ 1 ∷ 2 ∷ 3 ∷ 4 ∷ 5 ∷ 6 ∷ 7 ∷ []) ≡ number_of 256 (0x88 ∷ 0xC6 ∷ 0xFA ∷ [])
zero_to_seven = refl

-- the levels 0 to 3 of two bits, and padding
levels : number_of 4 (0 ∷ 1 ∷ 2 ∷ 3 ∷ 0 ∷ 0 ∷ 0 ∷ 0 ∷ []) ≡ number_of 256 (0xE4 ∷ 0x00 ∷ [])
levels = refl

-- wider values than a byte
nine_bits : number_of 512 (0 ∷ 1 ∷ 2 ∷ 255 ∷ 256 ∷ 300 ∷ 510 ∷ 511 ∷ []) ≡ number_of 256 (0x00 ∷ 0x02 ∷ 0x08 ∷ 0xF8 ∷ 0x07 ∷ 0x90 ∷ 0xA5 ∷ 0xFF ∷ 0xFF ∷ [])
nine_bits = refl

minus_two : plain_bytes (int32 (negsuc 1)) ≡ 0xFE ∷ 0xFF ∷ 0xFF ∷ 0xFF ∷ []
minus_two = refl

large : plain_bytes (int64 (pos 258)) ≡ 2 ∷ 1 ∷ 0 ∷ 0 ∷ 0 ∷ 0 ∷ 0 ∷ 0 ∷ []
large = refl

one_letter : plain_bytes (chars (0x78 ∷ [])) ≡ 1 ∷ 0 ∷ 0 ∷ 0 ∷ 0x78 ∷ []
one_letter = refl

-- three copies begin with 6, eight values in one group with 3
copies_are_even : header_of (repeated 3 7) ≡ 6
copies_are_even = refl

groups_are_odd : header_of (packed (0 ∷ 1 ∷ 2 ∷ 3 ∷ 4 ∷ 5 ∷ 6 ∷ 7 ∷ [])) ≡ 3
groups_are_odd = refl

-- -1 is all ones
minus_one : plain_bytes (int32 (negsuc 0)) ≡ 0xFF ∷ 0xFF ∷ 0xFF ∷ 0xFF ∷ []
minus_one = refl
