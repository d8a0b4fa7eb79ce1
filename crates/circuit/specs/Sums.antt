-- Sums of gates: "each after the first followed by ADD(sum, it)" (document 01, "Writing one condition", of the terms of an order digit),
-- "every term after the first is followed by ADD(sum, it)" (document 02, E1, of a score).
use Rattle.std.specs.Prelude.{ℕ, suc, ◌+◌, ◌-◌, ◌*◌, max, List, [], ◌∷◌}
use Rattle.circuit.specs.Gate.{Gate, Add}

-- the terms after the first: from gate number k on, over the gate of the sum so far
unfoldable pub later_sum : ℕ → ℕ → List Gate → List Gate
later_sum k sum [] = []
later_sum k sum (g ∷ gs) = g ∷ Add sum k ∷ later_sum (suc (suc k)) (suc k) gs

-- all terms, from gate number k on
abbrev pub sum_from : ℕ → List Gate → List Gate
sum_from k [] = []
sum_from k (g ∷ gs) = g ∷ later_sum (suc k) k gs

-- the gate of the sum of n terms from gate number k on: the last one
abbrev pub sum_gate : ℕ → ℕ → ℕ
sum_gate k n = k + 2 * (n - 1)

-- the largest of the entries, of none 0: a sum is as deep as its deepest term
unfoldable pub largest : List ℕ → ℕ
largest [] = 0
largest (x ∷ xs) = max x (largest xs)
