-- Why a digit test is right over every odd prime: what is proved of the field and of the two polynomials, with p as a parameter.
-- Congruence is equality of remainders. Proved in `proofs/Euclid.antt`, `proofs/Fermat.antt` and `proofs/Polynomials.antt`.
use Rattle.std.specs.Prelude.{◌≡◌, ◌≢◌, ◌⊎◌, ℕ, ◌-◌, ◌*◌, ◌%◌, ◌^◌, ◌<◌, ltb, eqb}
use Rattle.field.specs.Bit.{bit}
use Rattle.field.specs.Half.{half}
use Rattle.field.specs.Primes.{Prime}
use Rattle.field.specs.Polynomials.{zero_test, order_polynomial}

-- Euclid's lemma: a prime that divides a product divides a factor
abbrev pub Euclid : Type 0
Euclid = (p a b : ℕ) → Prime p → (a * b) % p ≡ 0 → (a % p ≡ 0) ⊎ (b % p ≡ 0)

-- a factor that is not 0 modulo p goes
abbrev pub Cancel : Type 0
Cancel = (p a x y : ℕ) → Prime p → a % p ≢ 0 → (a * x) % p ≡ (a * y) % p → x % p ≡ y % p

-- Fermat: z^p is z
abbrev pub Fermat : Type 0
Fermat = (p z : ℕ) → Prime p → (z ^ p) % p ≡ z % p

-- and z^(p-1) is 1
abbrev pub FermatOne : Type 0
FermatOne = (p z : ℕ) → Prime p → z % p ≢ 0 → (z ^ (p - 1)) % p ≡ 1

-- but at 0 it is 0, not 1
abbrev pub FermatZero : Type 0
FermatZero = (p : ℕ) → Prime p → 0 ^ (p - 1) ≡ 0

-- 1 - z^(p-1) is 1 at z = 0, and 0 elsewhere below p
abbrev pub ZeroTest : Type 0
ZeroTest = (p z : ℕ) → Prime p → z < p → zero_test p z ≡ bit (eqb z 0)

-- the order polynomial is 1 above (p-1)/2, and 0 up to it
abbrev pub OrderTest : Type 0
OrderTest = (p z : ℕ) → Prime p → p % 2 ≡ 1 → z < p → order_polynomial p z % p ≡ bit (ltb (half p) z)
