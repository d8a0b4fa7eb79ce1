-- The first bench card (document 01, "Bench cards"), which the starred cases and the listing go by.
use Rattle.std.specs.Prelude.{ℕ, List, [], ◌∷◌}

-- "Card C5 48 03 4B 01 00 C5 51 01 01"
abbrev pub first_card : List ℕ
first_card = 0xC5 ∷ 0x48 ∷ 0x03 ∷ 0x4B ∷ 0x01 ∷ 0x00 ∷ 0xC5 ∷ 0x51 ∷ 0x01 ∷ 0x01 ∷ []
