-- What the constants of the order polynomial are computed by: lists, entry by entry.
use Rattle.std.specs.Prelude.{ℕ, suc, ◌/◌, ◌^◌, List, map, length, get_or}
use Rattle.field.specs.FirstValues.{first_values}
use Rattle.field.specs.Modular.{residue, mul_mod}
use Rattle.field.specs.Polynomials.{every_second, order_constant}
use Rattle.circuit.specs.Constant.{bits_of}

-- room for the order constants of any odd p that is a byte: one for each odd exponent below p, and one for p - 1
abbrev pub most_constants : ℕ
most_constants = 128

-- 1, 2, .. n
abbrev pub one_to : ℕ → List ℕ
one_to n = first_values n (λ b. suc b)

-- each entry times the factor at its place, modulo p
abbrev pub products_mod : ℕ → List ℕ → List ℕ → List ℕ
products_mod p list factors = first_values (length list) (λ i. mul_mod p (get_or list i 0) (get_or factors i 0))

-- b^e modulo p, for b from 1 to n
abbrev pub powers_mod : ℕ → ℕ → ℕ → List ℕ
powers_mod p e n = first_values n (λ b. residue p (suc b ^ e))

-- the constants but for the last one, of an odd p
unfoldable pub odd_constants : ℕ → List ℕ
odd_constants p = map (order_constant p) (every_second (p / 2) 1)

-- the same as SCALEs have them
abbrev pub odd_bits : ℕ → List ℕ
odd_bits p = map (bits_of p) (odd_constants p)
