-- The invariant is `Linking`: each chain, turned over onto what later gates add, is the whole.
use Rattle.std.proofs.Common.{length}
use Rattle.counter.specs.Gates.{gates_of}
use Rattle.counter.proofs.Linking.{Linking}
use Rattle.counter.proofs.Table.link_used.Given as goal

abbrev pub invariant-loop-k : goal.invariant-loop-k
invariant-loop-k l = Linking (gates_of l.self.bytes.now) l.self.count (length l.initial.starts) (length l.initial.next) l.starts l.next l.k
