-- The invariant is `Entering`: the last uses by the first gates, and later entries as they were.
-- Assumes nothing.
use Rattle.liveness.proofs.Entering.{Entering}
use Rattle.liveness.proofs.enter_uses.Given as goal

abbrev pub invariant-loop-number : goal.invariant-loop-number
invariant-loop-number l = Entering l.table.bytes.now l.table.outline.gates l.initial.list l.list l.number
