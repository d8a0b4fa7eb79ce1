-- The equality digit (document 01, "Writing one condition"): 1 - z^t for t = p-1, the power by t's bits.
use Rattle.std.specs.Prelude.{ℕ, suc, ◌-◌, Bool, true, false, List, [], ◌∷◌}
use Rattle.circuit.specs.Gate.{Gate, Flip, Mul}
use Rattle.comparison.specs.Bits.{bits}
use Rattle.comparison.specs.Difference.{z_gate}

-- the collected power: none yet, or the gate that holds it
pub data Collected : Type 0 where
  nothing : Collected
  power : ℕ → Collected

-- where no bit was set, which no t above 0 has, the running power
abbrev pub held_by : Collected → ℕ → ℕ
held_by nothing running = running
held_by (power collected) running = collected

-- "At each bit after 0 square the running power. At a set bit it becomes the collected power, or MUL (collected, running) if one exists.
-- After the top bit, FLIP.": the bits still to come, the next gate's number k, the gate of the running power
unfoldable pub chain : List Bool → ℕ → ℕ → Collected → List Gate
chain [] k running collected = Flip (held_by collected running) ∷ []
chain (false ∷ bits) k running collected = Mul running running ∷ chain bits (suc k) k collected
chain (true ∷ bits) k running nothing = Mul running running ∷ chain bits (suc k) k (power k)
chain (true ∷ bits) k running (power collected) =
    Mul running running ∷ Mul collected k ∷ chain bits (suc (suc k)) k (power (suc k))

-- bit 0: the running power is z
abbrev pub zero_chain : List Bool → ℕ → ℕ → List Gate
zero_chain [] k z = chain [] k z nothing
zero_chain (false ∷ bits) k z = chain bits k z nothing
zero_chain (true ∷ bits) k z = chain bits k z (power z)

-- 1 - z^(p-1) of the difference whose first gate is number k; the result is the last gate
abbrev pub zero_gates : ℕ → ℕ → List Gate
zero_gates p k = zero_chain (bits (p - 1)) (suc (z_gate k)) (z_gate k)
