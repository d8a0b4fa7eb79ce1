use Rattle.std.proofs.Common.{◌≡◌, ◌-◌, ap, ◌∙◌, get_or, rules}
use Rattle.answer.specs.Outcome.{accepted}
use Rattle.circuit.specs.Meaning.{output}
use Rattle.circuit.specs.Reading.{reading}
use Rattle.circuit.specs.Value.{values}
use Rattle.records.specs.Read.{gates_in}
use Rattle.runner.proofs.Running.{last_value}
use Rattle.runner.proofs.run_read.Goals as goal

pub returns-clause-answers : goal.returns-clause-answers
returns-clause-answers c =
    let s = c.args in
    let p = c.head_at-head.result.prime in
    let last : get_or c.run_gates.new.work (c.from-count.result - 1) 0 ≡ output (values p s.left.now s.right.now) (gates_in (reading s.table.bytes.now))
    = rw c.from-count.ensures (last_value p s.left.now s.right.now s.table.bytes.now _ s.work.now _ s.table.counted s.table.some c.run_gates.ensures) in
    ap accepted last ∙ (search rules)
