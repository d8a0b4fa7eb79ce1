use Rattle.std.proofs.Common.{length, arith}
use Rattle.joining.specs.Listed.{less_at, equal_at}
use Rattle.joining.proofs.Depth.{below_upper, above_upper, run_shallow}
use Rattle.joining.proofs.Joins.{run_one}
use Rattle.joining.proofs.Parts.{in_halves, joined_run}
use Rattle.joining.proofs.+join_run.Goals as goal

pub returns-then-tests-eq1 : goal.returns-then-tests-eq1
returns-then-tests-eq1 t c =
    let tests = c.args.tests.now in
    let one = run_one (less_at tests) (equal_at tests) 0 (length tests) {w = c.args.out.now} (omega arith) (omega arith) (omega arith) in
    record { wrote = one.0; moves = omega arith; less = one.1; equal = one.2 }

pub put_join-requires : goal.put_join-requires
put_join-requires t c =
    let halved = in_halves c.if-tests-eq1.false c.requires.joinable.some c.split_at.ensures.front c.split_at.ensures.back in
    let may = c.requires.joinable in
    let l = c.join_run-low.ensures in
    let h = c.join_run-high.ensures in
    (omega arith, run_shallow (below_upper halved may) _ l.less l.equal, run_shallow (above_upper halved may) _ h.less h.equal)

pub returns : goal.returns
returns t c =
    let halved = in_halves c.if-tests-eq1.false c.requires.joinable.some c.split_at.ensures.front c.split_at.ensures.back in
    let l = c.join_run-low.ensures in
    let h = c.join_run-high.ensures in
    let j = c.put_join.ensures in
    let all = joined_run halved l.wrote l.less l.equal h.wrote h.less h.equal j.wrote j.less j.equal in
    record { wrote = all.0; moves = omega arith; less = all.1; equal = all.2 }
