use Rattle.std.proofs.Common.{◌-◌, ◌*◌, ◌≤◌, length, arith}
use Rattle.step.specs.Digit.{step_gates}
use Rattle.step.proofs.Digit.{less_few}
use Rattle.rating.proofs.count_less.Goals as goal

pub put_step_less-requires : goal.put_step_less-requires
put_step_less-requires c =
    let m = c.args.m in
    let start = c.second_gate.ensures in
    let few : length (step_gates m.p c.args.step (c.second_gate.result.next - 1)) ≤ 11 * m.p = less_few m.p c.args.step m.least m.odd c.requires.1.0 c.requires.1.1 _ in
    record {
      provided = record { room = omega (arith, few, start, m.byte, c.requires.0); prepared = c.requires.2 };
      le_next = (omega (arith, start), c.requires.1);
    }

pub returns : goal.returns
returns c =
    let m = c.args.m in
    let start = c.second_gate.ensures in
    let few : length (step_gates m.p c.args.step (c.second_gate.result.next - 1)) ≤ 11 * m.p = less_few m.p c.args.step m.least m.odd c.requires.1.0 c.requires.1.1 _ in
    let moved = rw start.0 at c.put_step_less.ensures.wrote.moved.0 in
    let short : length (step_gates m.p c.args.step 0) ≤ 11 * m.p = rw start.0 at few in
    (omega (arith, moved), omega (arith, moved, short))
