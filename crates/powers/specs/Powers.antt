-- The depths of z and its powers, as they are lent to each digit.
use Rattle.std.specs.Prelude.{◌≡◌, List, ◌⊎◌, ℕ, ◌-◌, ◌%◌, ◌≤◌, ◌<◌, get_or}
use Rattle.field.specs.Half.{half}
use Rattle.field.specs.Logarithm.{clog}
use Rattle.comparison.specs.OrderDigit.{power_gate}

-- so many entries hold the depths for any odd p that is a byte
abbrev pub most_powers : ℕ
most_powers = 192

-- the exponents of the powers: those up to (p-1)/2, odd ones, and p-1
abbrev pub IsWritten : ℕ → ℕ → Type 0
IsWritten p i = (1 ≤ i) × (i ≤ p - 1) × ((i ≤ half p) ⊎ ((i % 2 ≡ 1) ⊎ (i ≡ p - 1)))

-- the entries of z and the powers below z^n: that of z^i is ceil(log2 i)
pub record Deep (p : ℕ) (depths : List ℕ) (n : ℕ) : Type 0 where
  pub known : (i : ℕ) → IsWritten p i → i < n → get_or depths (power_gate p 0 i) 0 ≡ clog i
