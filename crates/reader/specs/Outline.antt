-- What is known of a table once it is read, and how it is come by.
use Rattle.std.specs.Prelude.{◌≡◌, List, ℕ, ◌+◌, ◌*◌, ◌%◌, ◌≤◌, length}
use Rattle.answer.specs.Outcome.{Answer, refused, accepted, on_answer}
use Rattle.circuit.specs.Depth as deep
use Rattle.circuit.specs.Gate.{Gate}
use Rattle.circuit.specs.Table.{Head, Table, most_gates}
use Rattle.reader.specs.declared.Outline as declared

-- the gate count, the weight of a square and the depth
pub record Outline : Type 0 where
  pub gates : ℕ
  pub weight : ℕ
  pub depth : ℕ

abbrev pub outline : Table → Outline
outline table = record {
  gates = length table.gates;
  weight = table.head.weight;
  depth = deep.depth table.gates;
}

-- of a table that was read, or its refusal
abbrev pub outline_in : Answer Table → Answer Outline
outline_in read = on_answer read refused (λ table. accepted (outline table))

-- the three values in the code
abbrev pub outline_of : declared.Outline → Outline
outline_of told = record { gates = told.gates; weight = told.weight; depth = told.depth.0 }

-- ---- gates after a head

-- what the functions that read gates ask: some gates and no more than a table may have, a record for each after the head, and a prime that is odd
abbrev pub Readable : List ℕ → Head → ℕ → Type 0
Readable table head count = (1 ≤ count) × (count ≤ most_gates) × (8 * (count + 1) ≤ length table) × (head.prime % 2 ≡ 1)

-- the depth of gates that were read
abbrev pub depth_in : Answer (List Gate) → Answer ℕ
depth_in read = on_answer read refused (λ gates. accepted (deep.depth gates))
