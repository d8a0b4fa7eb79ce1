-- The invariant is `Underway`: the gates that are left, run on the values of the first k, give all values, and the bytes after the values are kept.
-- Assumes nothing.
use Rattle.circuit.specs.Value.{values}
use Rattle.runner.proofs.Running.{Underway}
use Rattle.runner.proofs.Inputs.run_gates.Given as goal

abbrev pub invariant-loop-k : goal.invariant-loop-k
invariant-loop-k l =
    let s = l.self in
    Underway (values s.head.prime s.left.now s.right.now) l.table.bytes.now l.table.outline.gates l.initial.work l.work l.k
