-- The invariant is `Marking`: the marks are what the gates from number k on need.
use Rattle.std.proofs.Common.{length}
use Rattle.counter.specs.Gates.{gates_of}
use Rattle.counter.proofs.Marking.{Marking}
use Rattle.counter.proofs.Table.mark_used.Given as goal

abbrev pub invariant-loop-k : goal.invariant-loop-k
invariant-loop-k l = Marking (gates_of l.self.bytes.now) l.self.count (length l.initial.marks) l.marks l.k
