-- How a record stands in bytes (document 01, "Gate table"): its mark, and its u16, little-endian.
use Rattle.std.specs.Prelude.{ℕ, ◌+◌, ◌*◌, ◌/◌, ◌%◌, Bool, not, ◌||◌, List, ◌∷◌, eqb, get_or}
use Rattle.field.specs.Byte.{byte_values}

-- byte i; bytes that are not there read as 0
abbrev pub byte : List ℕ → ℕ → ℕ
byte bytes i = get_or bytes i 0

-- "Every record opens with a two-byte mark"
pub record Mark : Type 0 where
  pub opening : ℕ
  pub closing : ℕ

abbrev pub marked : Mark → List ℕ → List ℕ
marked mark bytes = mark.opening ∷ mark.closing ∷ bytes

abbrev pub wrong_mark : Mark → List ℕ → Bool
wrong_mark mark bytes = not (eqb (byte bytes 0) mark.opening) || not (eqb (byte bytes 1) mark.closing)

-- "u16 are little-endian"
abbrev pub u16 : ℕ → List ℕ → List ℕ
u16 x bytes = x % byte_values ∷ x / byte_values ∷ bytes

abbrev pub u16_at : List ℕ → ℕ → ℕ
u16_at bytes i = byte bytes i + byte_values * byte bytes (i + 1)
