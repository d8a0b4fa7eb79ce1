-- The order digit (document 01, "Writing one condition"): the powers of z, the sum L of its terms, and E.
use Rattle.std.specs.Prelude.{ℕ, zero, suc, ◌+◌, ◌-◌, ◌/◌, ◌%◌, true, false, List, [], ◌∷◌, ◌++◌, map, leb}
use Rattle.field.specs.Half.{half}
use Rattle.field.specs.Polynomials.{every_second, order_exponents, order_constant}
use Rattle.circuit.specs.Constant.{code}
use Rattle.circuit.specs.Gate.{Gate, Scale, Flip, Mul}
use Rattle.circuit.specs.Sums.{sum_from}
use Rattle.comparison.specs.Difference.{z_gate}

-- i, i + 1, ..: n numbers
unfoldable pub ascending : ℕ → ℕ → List ℕ
ascending zero i = []
ascending (suc n) i = i ∷ ascending n (suc i)

-- "powers z^i ascending for i = 2 to (p-1)/2"
abbrev pub low_exponents : ℕ → List ℕ
low_exponents p = ascending (half p - 1) 2

-- the first odd number above i
abbrev pub next_odd : ℕ → ℕ
next_odd i = i + 1 + i % 2

-- "then the odd i above that to p-2"
abbrev pub odd_exponents : ℕ → List ℕ
odd_exponents p = every_second ((p - next_odd (half p)) / 2) (next_odd (half p))

-- the gate of z^i for i up to (p-1)/2: they follow z
abbrev pub low_power : ℕ → ℕ → ℕ
low_power z i = z + (i - 1)

-- "Even i squares z^(i/2); odd i is MUL(z^((i-1)/2), z^((i+1)/2))."
abbrev pub power_of : ℕ → ℕ → Gate
power_of z i = Mul (low_power z (i / 2)) (low_power z ((i + 1) / 2))

-- "then p-1"
abbrev pub powers : ℕ → ℕ → List Gate
powers p z = map (power_of z) (low_exponents p) ++ (map (power_of z) (odd_exponents p) ++ (power_of z (p - 1) ∷ []))

-- how many gates they are: (p-1)/2 - 1 and 1, and the odd ones, half as many
abbrev pub power_count : ℕ → ℕ
power_count p = half p + half p / 2

-- the gate of z^i for every i that is written: after those up to (p-1)/2 come the odd ones, for which i/2 goes up by 1 each time,
-- then p-1
unfoldable pub power_gate : ℕ → ℕ → ℕ → ℕ
power_gate p z i =
    elim (leb i (half p)) [ true ↦ low_power z i | false ↦ z + half p + (i / 2 - (half p + 1) / 2) ]

-- "a SCALE of z^i by c_i"
abbrev pub term : ℕ → ℕ → ℕ → Gate
term p z i = Scale (power_gate p z i) (code p (order_constant p i))

-- "each after the first followed by ADD(sum, it)": from gate number k on
abbrev pub terms : ℕ → ℕ → ℕ → List ℕ → List Gate
terms p z k is = sum_from k (map (term p z) is)

-- the first gate of the terms, over the difference whose first gate is number k
abbrev pub term_start : ℕ → ℕ → ℕ
term_start p k = suc (z_gate k) + power_count p

-- powers and terms: "for i = 1, 3, .. p-2, p-1". "The sum is L.": the last of them
abbrev pub less_gates : ℕ → ℕ → List Gate
less_gates p k = powers p (z_gate k) ++ terms p (z_gate k) (term_start p k) (order_exponents p)

-- how many they are: the terms are p gates, of which (p+1)/2 are SCALEs
abbrev pub less_count : ℕ → ℕ
less_count p = power_count p + p

-- "Every digit but the lowest then FLIPs z^(p-1): E."
abbrev pub equal_gates : ℕ → ℕ → List Gate
equal_gates p k = Flip (power_gate p (z_gate k) (p - 1)) ∷ []
