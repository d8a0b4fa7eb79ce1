-- The invariant is `Counting`: the sums over the higher operands below h.
use Rattle.std.proofs.Common.{length}
use Rattle.counter.specs.Gates.{gates_of}
use Rattle.counter.proofs.Counting.{Counting}
use Rattle.counter.proofs.Table.count_pairs.Given as goal

abbrev pub invariant-loop-h : goal.invariant-loop-h
invariant-loop-h l = Counting (gates_of l.self.bytes.now) l.self.count (length l.initial.marks) l.marks l.pairs l.squares l.h
