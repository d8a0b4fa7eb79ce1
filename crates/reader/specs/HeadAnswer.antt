-- A head that was read, or why it is refused, as the code holds it.
use Rattle.std.specs.Prelude.{Result}
use Rattle.answer.specs.Outcome.{Answer}
use Rattle.answer.specs.Settled.{answer_of}
use Rattle.answer.specs.declared.Refusal.{Refusal}
use Rattle.circuit.specs.Table.{Head}
use Rattle.records.specs.Head.{head_is}
use Rattle.records.specs.declared.TableHead.{TableHead}

-- the refusal's number, or the head
abbrev pub head_answer : Result TableHead Refusal → Answer Head
head_answer = answer_of head_is
