-- What the functions within Run mean: the values of gates that were read.
use Rattle.std.specs.Prelude.{◌≡◌, List, ℕ}
use Rattle.answer.specs.Outcome.{Answer, accepted, on_answer}
use Rattle.circuit.specs.Gate.{Gate}
use Rattle.circuit.specs.Meaning.{Algebra, meaning, entry_of, entries}
use Rattle.circuit.specs.Table.{Table}
use Rattle.records.specs.Read.{gates_in}

-- a gate that was read is accepted
pub record CanRun (read : Answer Gate) : Type 0 where
  pub value : Gate
  pub accept : read ≡ accepted value

-- the value of a gate that was read, from those of the gates before it
abbrev pub value_in : Algebra ℕ → List ℕ → Answer Gate → ℕ
value_in alg earlier read = on_answer read (λ number. 0) (meaning alg (entry_of alg earlier))

-- the values of all gates of a table that was read
abbrev pub values_in : Algebra ℕ → Answer Table → List ℕ
values_in alg read = entries alg (gates_in read)
