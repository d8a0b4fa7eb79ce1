-- The constant of a SCALE (document 02, E3): "a signed 16-bit number from -(p-1)/2 to (p-1)/2, two's complement, equal to the old constant modulo p".
use Rattle.std.specs.Prelude.{ℕ, ◌-◌, Bool, true, false, ◌&&◌, ltb, leb}
use Rattle.field.specs.Half.{half}

-- "a signed .. number": minus n is -n, where n is above 0
pub data Constant : Type 0 where
  plus : ℕ → Constant
  minus : ℕ → Constant

-- "from -(p-1)/2 to (p-1)/2"
abbrev pub is_constant : ℕ → Constant → Bool
is_constant p (plus n) = leb n (half p)
is_constant p (minus n) = leb 1 n && leb n (half p)

-- the number below p that a constant is modulo p: "the old constant"
abbrev pub constant : ℕ → Constant → ℕ
constant p (plus n) = n
constant p (minus n) = p - n

-- the constant that is "equal to the old constant modulo p"
unfoldable pub code : ℕ → ℕ → Constant
code p c = elim (leb c (half p)) [ true ↦ plus c | false ↦ minus (p - c) ]

-- "16-bit .., two's complement"
abbrev pub sixteen_bits : Constant → ℕ
sixteen_bits (plus n) = n
sixteen_bits (minus n) = 0x10000 - n

-- the constant whose sixteen bits they are
unfoldable pub signed : ℕ → Constant
signed b = elim (ltb b 0x8000) [ true ↦ plus b | false ↦ minus (0x10000 - b) ]

-- the b of a SCALE by a number below p
abbrev pub bits_of : ℕ → ℕ → ℕ
bits_of p c = sixteen_bits (code p c)
