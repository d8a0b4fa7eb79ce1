-- What the functions within the last-use list mean: the last uses of what was read.
use Rattle.std.specs.Prelude.{List, ℕ}
use Rattle.answer.specs.Outcome.{Answer}
use Rattle.circuit.specs.LastUse.{last_uses}
use Rattle.circuit.specs.Table.{Table}
use Rattle.records.specs.Read.{gates_in}

-- the last uses of a table that was read
abbrev pub uses_in : Answer Table → List ℕ
uses_in read = last_uses (gates_in read)
