-- Depths gate by gate: those of the gates read so far, and what is left to read, give the depth of the last one.
-- Assumes nothing.
use Rattle.std.proofs.Common.{◌≡◌, refl, ap, List, [], ◌∷◌, ◌++◌, ℕ, zero, suc, ◌+◌, ◌-◌, arith, add-one, length, drop, length-append}
use Rattle.answer.specs.Outcome.{Answer, refused, accepted, on_answer}
use Rattle.circuit.specs.Depth.{depths}
use Rattle.circuit.specs.Gate.{Gate}
use Rattle.circuit.specs.Meaning.{entry_of, interpret}
use Rattle.circuit.specs.Reading.{read_gate, read_gates}
use Rattle.circuit.specs.Table.{Head}
use Rattle.gates.specs.GateDepth.{depth_of}

-- the depth of the last of gates after others, whose depths are given
abbrev pub last_depth : List ℕ → List Gate → ℕ
last_depth earlier gs = entry_of depths (interpret depths earlier gs) (length earlier + length gs - 1)

abbrev pub depth_after : List ℕ → Answer (List Gate) → Answer ℕ
depth_after earlier read = on_answer read refused (λ gs. accepted (last_depth earlier gs))

-- the depths, with that of one gate more
abbrev pub deepened : List ℕ → Gate → List ℕ
deepened earlier g = earlier ++ (depth_of earlier g ∷ [])

-- the first gate of those that are left
first_gate : (earlier : List ℕ) (g : Gate) (later : Answer (List Gate))
    → depth_after earlier (on_answer later refused (λ gs. accepted (g ∷ gs))) ≡ depth_after (deepened earlier g) later
unfolding interpret
first_gate earlier g (refused n) = refl
first_gate earlier g (accepted gs) =
    let size : length earlier + suc (length gs) ≡ length (deepened earlier g) + length gs = rw length-append (omega arith) in
    ap accepted (rw size)

module _ (head : Head) (k left : ℕ) (bytes earlier : List ℕ) where
  pub next_gate : (g : Gate) → read_gate head k bytes ≡ accepted g
      → depth_after earlier (read_gates head k (suc left) bytes) ≡ depth_after (deepened earlier g) (read_gates head (k + 1) left (drop 8 bytes))
  unfolding read_gates
  next_gate g e = rw (e, add-one) (first_gate earlier g (read_gates head (suc k) left (drop 8 bytes)))

  pub stops : (n : ℕ) → read_gate head k bytes ≡ refused n → depth_after earlier (read_gates head k (suc left) bytes) ≡ refused n
  unfolding read_gates
  stops n e = rw e

-- all gates are read
pub ends : (head : Head) (k : ℕ) (bytes earlier : List ℕ) → depth_after earlier (read_gates head k zero bytes) ≡ accepted (last_depth earlier [])
unfolding read_gates
ends head k bytes earlier = refl
