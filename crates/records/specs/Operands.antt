-- The gates that a record says its gate reads, and a number entered for each.
use Rattle.std.specs.Prelude.{List, [], ◌∷◌, ℕ, set}
use Rattle.answer.specs.Outcome.{on_answer}
use Rattle.circuit.specs.Bytes.{byte, u16_at}
use Rattle.circuit.specs.Gate.{gate_of}
use Rattle.circuit.specs.Operands.{operands}

-- the operands of the gate of a kind over a and b; where there is no such kind, none
abbrev pub operands_of : ℕ → ℕ → ℕ → List ℕ
operands_of kind a b = on_answer (gate_of kind a b) (λ number. []) operands

-- those of the record that the bytes begin with
abbrev pub operands_at : List ℕ → List ℕ
operands_at bytes = operands_of (byte bytes 2) (u16_at bytes 4) (u16_at bytes 6)

-- the list with a number at each of these places
abbrev pub entered : ℕ → List ℕ → List ℕ → List ℕ
entered number [] list = list
entered number (i ∷ is) list = entered number is (set list i number)
