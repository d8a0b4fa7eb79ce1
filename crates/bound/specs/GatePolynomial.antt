-- Each gate as a polynomial in the value of the one left slot: a meaning beside the value and the depth.
use Rattle.std.specs.Prelude.{ℕ, List, [], ◌∷◌, get_or}
use Rattle.circuit.specs.Constant.{constant}
use Rattle.circuit.specs.Meaning.{Algebra}
use Rattle.bound.specs.Polynomial.{zero_polynomial, constant_polynomial, variable, sum_polynomial, multiple_polynomial, difference_polynomial, product_polynomial}

-- over the right list, which stays as it is, so that a RIGHT gate is a constant
abbrev pub polynomials : ℕ → List ℕ → Algebra (List ℕ)
polynomials p right = record {
  none = zero_polynomial;
  left = λ a. get_or (variable ∷ []) a zero_polynomial;
  right = λ a. constant_polynomial (get_or right a 0);
  add = sum_polynomial;
  sub = difference_polynomial p;
  scale = λ q c. multiple_polynomial (constant p c) q;
  flip = difference_polynomial p (constant_polynomial 1);
  mul = product_polynomial;
}
