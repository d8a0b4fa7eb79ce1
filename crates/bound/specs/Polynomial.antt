-- Polynomials in one variable x: the coefficients, lowest first. Numbers are not reduced, and a last coefficient may be 0,
-- so many lists stand for the same polynomial.
use Rattle.std.specs.Prelude.{ℕ, ◌+◌, ◌-◌, ◌*◌, List, [], ◌∷◌, map, length}

-- the value at x
unfoldable pub evaluate : List ℕ → ℕ → ℕ
evaluate [] x = 0
evaluate (c ∷ q) x = c + x * evaluate q x

-- the highest power that may occur
abbrev pub degree : List ℕ → ℕ
degree q = length q - 1

abbrev pub zero_polynomial : List ℕ
zero_polynomial = []

abbrev pub constant_polynomial : ℕ → List ℕ
constant_polynomial c = c ∷ []

-- x itself
abbrev pub variable : List ℕ
variable = 0 ∷ 1 ∷ []

-- the sum, power by power
unfoldable pub sum_polynomial : List ℕ → List ℕ → List ℕ
sum_polynomial [] r = r
sum_polynomial (c ∷ q) [] = c ∷ q
sum_polynomial (c ∷ q) (d ∷ r) = (c + d) ∷ sum_polynomial q r

-- a times a polynomial
abbrev pub multiple_polynomial : ℕ → List ℕ → List ℕ
multiple_polynomial a q = map (λ c. a * c) q

-- the difference modulo p, where p - 1 is minus 1
abbrev pub difference_polynomial : ℕ → List ℕ → List ℕ → List ℕ
difference_polynomial p q r = sum_polynomial q (multiple_polynomial (p - 1) r)

-- the product: that of c + x q and r is c r + x (q r)
unfoldable pub product_polynomial : List ℕ → List ℕ → List ℕ
product_polynomial [] r = []
product_polynomial (c ∷ q) r = sum_polynomial (multiple_polynomial c r) (0 ∷ product_polynomial q r)
