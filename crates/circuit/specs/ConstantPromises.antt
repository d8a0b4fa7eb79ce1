-- What is proved of constants. Proved in `proofs/Constant.antt`.
use Rattle.std.specs.Prelude.{◌≡◌, true, ℕ, ◌+◌, ◌%◌, ◌≤◌, ◌<◌}
use Rattle.circuit.specs.Constant.{Constant, plus, minus, is_constant, constant, code, sixteen_bits, signed}

-- "equal to the old constant modulo p": n is n, and -n is what makes p together with n
abbrev pub EqualModulo : Type 0
EqualModulo = (p n : ℕ) → (constant p (plus n) ≡ n) × (is_constant p (minus n) ≡ true → constant p (minus n) + n ≡ p)

-- each number below p has exactly one constant, over any odd p
abbrev pub OneConstant : Type 0
OneConstant =
    (p c : ℕ) → p % 2 ≡ 1 → c < p
    → (is_constant p (code p c) ≡ true)
    × (constant p (code p c) ≡ c)
    × ((d : Constant) → is_constant p d ≡ true → constant p d ≡ c → d ≡ code p c)

-- and each constant is that of a number below p
abbrev pub ConstantsBelow : Type 0
ConstantsBelow = (p : ℕ) (d : Constant) → p % 2 ≡ 1 → is_constant p d ≡ true → constant p d < p

-- "16-bit .., two's complement": constants are told apart by their sixteen bits, and no two numbers of sixteen bits are the same constant
abbrev pub TwosComplement : Type 0
TwosComplement =
    ((p : ℕ) (d : Constant) → p ≤ 0x10000 → is_constant p d ≡ true → (sixteen_bits d < 0x10000) × (signed (sixteen_bits d) ≡ d))
    × ((b : ℕ) → b < 0x10000 → sixteen_bits (signed b) ≡ b)
