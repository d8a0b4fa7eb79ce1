-- Which gates a gate reads: a gate that keeps the rules reads only lower gates, and the gates of a list by their numbers.
-- Assumes nothing.
use mathlib.Core.Path.{◌≡◌}
use mathlib.Core.Bool.{true}
use mathlib.Core.List.{List, [], ◌∷◌}
use Prim.Native.Nat.{ℕ, zero, suc, ◌+◌, ◌<◌}
use native.Mathlib.Omega.{arith}
use lib.ListN.{length}
use Rattle.circuit.specs.Gate.{Gate}
use Rattle.circuit.specs.Operands.{operands, reads, GateIs, Reads}
use Rattle.circuit.proofs.Every.{every_member}
use Rattle.circuit.proofs.Fitting.{Named, AllNamed}

-- ---- one gate

pub reads_lower : (i k : ℕ) (g : Gate) → Named k g → reads i g ≡ true → i < k
reads_lower i k g n t = every_member (λ (j : ℕ). j < k) i (operands g) n t

-- ---- the gates of a list

pub gate_below : (gates : List Gate) (k : ℕ) (g : Gate) → GateIs gates k g → k < length gates
gate_below [] k g is = absurd is
gate_below (h ∷ hs) zero g is = omega arith
gate_below (h ∷ hs) (suc k) g is = omega (arith, gate_below hs k g is)

-- of gates of which the first has number k
gate_named : (k j : ℕ) (gates : List Gate) (g : Gate) → AllNamed k gates → GateIs gates j g → Named (k + j) g
gate_named k j [] g n is = absurd is
gate_named k zero (h ∷ hs) g n is = let same : k + 0 ≡ k = omega arith in rw (same, ← is) n.0
gate_named k (suc j) (h ∷ hs) g n is =
    let same : k + suc j ≡ suc k + j = omega arith in rw same (gate_named (suc k) j hs g n.1 is)

-- a gate that is read stands before its reader, and the reader is one of the gates
pub read_before : (gates : List Gate) (k i : ℕ) → AllNamed 0 gates → Reads gates k i → (i < k) × (k < length gates)
read_before gates k i n r =
    let named : Named (0 + k) r.gate = gate_named 0 k gates r.gate n r.is in
    let lower = reads_lower i (0 + k) r.gate named r.does in
    (omega (arith, lower), gate_below gates k r.gate r.is)
