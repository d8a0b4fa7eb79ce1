-- The order polynomial by its coefficients: one for each exponent, most of them 0.
use Rattle.std.specs.Prelude.{ℕ, ◌-◌, ◌%◌, Bool, true, false, ◌&&◌, ◌||◌, eqb, ltb}
use Rattle.field.specs.Polynomials.{order_constant}

-- "i = 1, 3, .. p-2, p-1": the exponents of document 01's order polynomial
abbrev pub is_exponent : ℕ → ℕ → Bool
is_exponent p e = (eqb (e % 2) 1 && ltb e (p - 1)) || eqb e (p - 1)

-- the coefficient of z^e: document 01's constant, and 0 for every other e
unfoldable pub coefficient : ℕ → ℕ → ℕ
coefficient p e = elim (is_exponent p e) [ true ↦ order_constant p e | false ↦ 0 ]
