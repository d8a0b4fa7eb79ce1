-- The invariant is `Walking`: what was seen is counted and stamped.
-- The measure is the gate's number, which falls along a chain.
use Rattle.std.proofs.Common.{length}
use Rattle.circuit.specs.Used.{used}
use Rattle.counter.specs.Gates.{gates_of}
use Rattle.counter.specs.Pairs.{lowers}
use Rattle.counter.proofs.Walking.{Walking}
use Rattle.counter.proofs.Table.walk.Given as goal

abbrev pub invariant-loop-i : goal.invariant-loop-i
invariant-loop-i l = Walking (gates_of l.self.bytes.now) l.next (lowers l.h (used (gates_of l.self.bytes.now))) (length l.initial.marks) l.stamp l.start l.marks l.n l.i

abbrev pub decreases-loop-i : goal.decreases-loop-i
decreases-loop-i l = l.i
