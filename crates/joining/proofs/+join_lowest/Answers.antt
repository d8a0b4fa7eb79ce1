use Rattle.std.proofs.Common.{arith}
use Rattle.joining.specs.Listed.{less_at, equal_at}
use Rattle.joining.proofs.Depth.{below_joinable, above_joinable, run_shallow, lowest_shallow}
use Rattle.joining.proofs.Joins.{lowest_one}
use Rattle.joining.proofs.Parts.{in_halves, joined_whole, whole_split}
use Rattle.joining.proofs.+join_lowest.Goals as goal

pub returns-then-tests-eq1 : goal.returns-then-tests-eq1
returns-then-tests-eq1 t c =
    let tests = c.args.tests.now in
    let one = lowest_one (less_at tests) (equal_at tests) _ (omega arith) (omega arith) (omega arith) in
    record { wrote = one.0; output = one.1 }

pub join_lowest-low-requires : goal.join_lowest-low-requires
join_lowest-low-requires t c =
    let halved = in_halves c.if-tests-eq1.false c.requires.joinable.some c.split_at.ensures.front c.split_at.ensures.back in
    let whole = whole_split halved c.args.out.now.pen.next in
    (omega (arith, c, c, c), (below_joinable halved c.requires.joinable, omega (arith, whole)))

pub join_run-high-requires-clause-room : goal.join_run-high-requires-clause-room
join_run-high-requires-clause-room t c =
    let halved = in_halves c.if-tests-eq1.false c.requires.joinable.some c.split_at.ensures.front c.split_at.ensures.back in
    let whole = whole_split halved c.args.out.now.pen.next in
    omega (arith, whole)

pub put_less-requires : goal.put_less-requires
put_less-requires t c =
    let halved = in_halves c.if-tests-eq1.false c.requires.joinable.some c.split_at.ensures.front c.split_at.ensures.back in
    let may = c.requires.joinable in
    let whole = whole_split halved c.args.out.now.pen.next in
    let l = lowest_shallow (below_joinable halved may) _ c.join_lowest-low.ensures.output in
    let h = run_shallow (above_joinable halved may) _ c.join_run-high.ensures.less c.join_run-high.ensures.equal in
    (omega (arith, whole), l, h.1)

pub returns : goal.returns
returns t c =
    let halved = in_halves c.if-tests-eq1.false c.requires.joinable.some c.split_at.ensures.front c.split_at.ensures.back in
    let l = c.join_lowest-low.ensures in
    let h = c.join_run-high.ensures in
    let j = c.put_less.ensures in
    let all = joined_whole halved l.wrote l.output h.wrote h.less h.equal j.wrote j.joins in
    record { wrote = all.0; output = all.1 }
