-- A table that was read, as the functions go on with it: how many gates it has, and which.
use Rattle.std.specs.Prelude.{List, [], ℕ, length}
use Rattle.answer.specs.Outcome.{Answer, refused, accepted, on_answer}
use Rattle.circuit.specs.Gate.{Gate}
use Rattle.circuit.specs.Table.{Table}

-- how many gates were read, or why none
abbrev pub gates_read : Answer Table → Answer ℕ
gates_read read = on_answer read refused (λ table. accepted (length table.gates))

-- the gates that were read
abbrev pub gates_in : Answer Table → List Gate
gates_in read = on_answer read (λ number. []) (λ table. table.gates)
