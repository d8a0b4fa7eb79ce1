-- The bits of a number ("t=p-1, bit 0 upward"; "ones(t)" is how many of them are set).
use Rattle.std.specs.Prelude.{ℕ, zero, suc, ◌+◌, ◌/◌, ◌%◌, Bool, true, false, List, [], ◌∷◌, eqb}
use Rattle.field.specs.Bit.{bit}

-- bit 0 first, up to the top bit, which is set; the first argument bounds their count
unfoldable pub bits_in : ℕ → ℕ → List Bool
bits_in zero t = []
bits_in (suc most) t = elim (eqb t 0) [ true ↦ [] | false ↦ eqb (t % 2) 1 ∷ bits_in most (t / 2) ]

unfoldable pub bits : ℕ → List Bool
unfolding bits_in
bits t = bits_in t t

-- how many are set
unfoldable pub set_bits : List Bool → ℕ
set_bits [] = 0
set_bits (b ∷ bs) = bit b + set_bits bs

-- "ones(t)"
unfoldable pub ones : ℕ → ℕ
unfolding bits set_bits
ones t = set_bits (bits t)
