-- The two polynomials of a digit (document 01, "Writing one condition"): the test for 0, and the order polynomial with its constants.
use Rattle.std.specs.Prelude.{ℕ, zero, suc, ◌+◌, ◌-◌, ◌*◌, ◌/◌, ◌%◌, ◌^◌, true, false, List, [], ◌∷◌, ◌++◌, map, eqb}
use Rattle.field.specs.Half.{half}
use Rattle.field.specs.Modular.{sub_mod}
use Rattle.field.specs.Sum.{sum, total}

-- the equality digit, and E: z^(p-1) and then FLIP, which is 1 - z^(p-1) modulo p
abbrev pub zero_test : ℕ → ℕ → ℕ
zero_test p z = sub_mod p 1 (z ^ (p - 1))

-- i, i + 2, i + 4, ..: n numbers
unfoldable pub every_second : ℕ → ℕ → List ℕ
every_second zero i = []
every_second (suc n) i = i ∷ every_second n (suc (suc i))

-- "i = 1, 3, .. p-2, p-1": (p-1)/2 odd numbers, and p - 1
unfoldable pub order_exponents : ℕ → List ℕ
unfolding every_second
order_exponents p = every_second (half p) 1 ++ ((p - 1) ∷ [])

-- "For odd i, c_i is the sum of b^(p-1-i), b from 1 to (p-1)/2, modulo p; c_(p-1) = (p+1)/2." No other i is asked for
unfoldable pub order_constant : ℕ → ℕ → ℕ
order_constant p i =
    elim (eqb i (p - 1)) [ true ↦ (p + 1) / 2 | false ↦ sum (half p) (λ b. suc b ^ (p - 1 - i)) % p ]

-- the constants in the order in which they are written
unfoldable pub order_constants : ℕ → List ℕ
unfolding order_exponents order_constant
order_constants p = map (order_constant p) (order_exponents p)

-- the sum of c_i z^i over these i
unfoldable pub order_polynomial : ℕ → ℕ → ℕ
order_polynomial p z = total (map (λ i. order_constant p i * z ^ i) (order_exponents p))
