-- The powers of a step digit (document 02, E7): "z^2 to z^k ascending (even by square, odd as in document 01), then squares to z^(2k), z^(4k),
-- up to the highest split below". The request's k is `step` here, as k is a gate number in these files.
use Rattle.std.specs.Prelude.{ℕ, zero, suc, ◌+◌, ◌-◌, ◌*◌, true, false, List, [], ◌∷◌, ◌++◌, map, leb}
use Rattle.field.specs.Logarithm.{clog}
use Rattle.circuit.specs.Gate.{Gate, Mul}
use Rattle.circuit.specs.Segment.{Node}
use Rattle.comparison.specs.OrderDigit.{ascending, low_power, power_of}

-- how often m is doubled before it reaches t; the first argument bounds the count
unfoldable pub doublings : ℕ → ℕ → ℕ → ℕ
doublings zero m t = 0
doublings (suc most) m t = elim (leb t m) [ true ↦ 0 | false ↦ suc (doublings most (2 * m) t) ]

-- "j least such that k times 2^j reaches its degree", of the whole polynomial, whose degree is p-1
abbrev pub top_level : ℕ → ℕ → ℕ
top_level p step = doublings (p - 1) step (p - 1)

-- n squares one after the other, the first of gate g, which the next gate follows
unfoldable pub squares_from : ℕ → ℕ → List Gate
squares_from zero g = []
squares_from (suc n) g = Mul g g ∷ squares_from n (suc g)

-- the highest split is at z^(k·2^(j-1)), for the whole polynomial's j
abbrev pub step_powers : ℕ → ℕ → ℕ → List Gate
step_powers p step z =
    map (power_of z) (ascending (step - 1) 2) ++ squares_from (top_level p step - 1) (low_power z step)

-- z^(step·2^i)
abbrev pub split_node : ℕ → ℕ → ℕ → Node
split_node z step i = record { gate = low_power z step + i; depth = clog step + i }
