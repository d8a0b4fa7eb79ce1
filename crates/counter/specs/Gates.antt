-- The gates of a table that was read, by their numbers.
use Rattle.std.specs.Prelude.{◌≡◌, List, ℕ, ◌≤◌, length, get_or}
use Rattle.circuit.specs.Gate.{Gate, Left}
use Rattle.circuit.specs.Reading.{reading}
use Rattle.circuit.specs.Table.{most_gates}
use Rattle.records.specs.Read.{gates_in}

-- the gates that a table's bytes are read as; of bytes that are refused, none
unfoldable pub gates_of : List ℕ → List Gate
gates_of table = gates_in (reading table)

-- gate number k; what stands for a gate that is not there reads none
abbrev pub gate_at : List Gate → ℕ → Gate
gate_at gates k = get_or gates k (Left 0)

-- a table that was read, of count gates
pub record Countable (table : List ℕ) (count : ℕ) : Type 0 where
  pub many : length (gates_of table) ≡ count
  pub some : 1 ≤ count
  pub most : count ≤ most_gates
