-- `Polynomial::put_terms` meets its contract. The invariant: the terms that are left to write give all of them.
-- Assumes nothing.
use Rattle.std.proofs.Common.{◌≡◌}
use Rattle.step.specs.Coefficient.{coefficient}
use Rattle.step.specs.Pieces.{none, terms_from}
use Rattle.writer.specs.Leaves.{Leaves}
use Rattle.pieces.specs.Sums.{sum_is}
use Rattle.pieces.proofs.Terms.{rest}
use Rattle.pieces.proofs.Polynomial.put_terms.Given as goal

abbrev pub invariant-loop-e : goal.invariant-loop-e
invariant-loop-e l =
    let s = l.self in
    let left = rest s.m.p s.step s.z l.o l.e l.out.pen.next (sum_is l.sum) in
    let all = terms_from s.m.p s.step s.z (coefficient s.m.p) s.step l.o 1 l.initial.out.pen.next none in
    Leaves l.initial.out all.gates l.out left.gates × (left.sum ≡ all.sum)
