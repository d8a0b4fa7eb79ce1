use Rattle.std.proofs.Common.{◌≡◌, sym, ap, ◌∙◌, ◌-◌, length, length-append, length-take-le, arith}
use Rattle.field.proofs.Logarithm.{clog_is_ceiling}
use Rattle.step.specs.Digit.{tests_by}
use Rattle.step.proofs.Tests.{by_depths}
use Rattle.writer.proofs.Writing.{same_writes, follows}
use Rattle.order.specs.Slots.{order_condition}
use Rattle.order.proofs.Whole.{digits_within, segment_is, listed_joinable}
use Rattle.order.proofs.OrderTests.put_order.Goals as goal

pub put_digits-requires-clause-room : goal.put_digits-requires-clause-room
put_digits-requires-clause-room c =
    let a = c.args in
    omega (arith, digits_within (tests_by a.self.m.p a.self.step) (order_condition a.backward a.slots) a.out.now.pen.next, c.requires.room)

pub join_digits-requires : goal.join_digits-requires
join_digits-requires c =
    let a = c.args in
    let m = a.self.m in
    let t = tests_by m.p a.self.step in
    let d = order_condition a.backward a.slots in
    let wide = c.requires.slots in
    let w = c.put_digits in
    let sized : length w.new.tests ≡ a.slots.count =
    w.auto.tests ∙ length-take-le c.from.result _ (omega (arith, c.from.ensures, wide)) ∙ c.from.ensures in
    let deep = by_depths m.p a.self.step m.least a.self.suits.low in
    let top = (clog_is_ceiling (m.p - 1) 8).0 (omega (arith, m)) in
    let whole = segment_is t d a.out.now.pen.next wide.0 sized w.ensures.fills w.new.out.pen.next w.ensures.wrote.moved.0 in
    record {
      joinable = listed_joinable t d a.out.now.pen.next wide.0 sized w.ensures.fills (omega (arith, wide)) (omega (arith, deep, top)) (omega (arith, deep, top));
      room = omega (arith, simp length-append at (ap length whole.0), c.requires.room, w.ensures.wrote, c);
    }

pub returns : goal.returns
returns c =
    let a = c.args in
    let t = tests_by a.self.m.p a.self.step in
    let d = order_condition a.backward a.slots in
    let wide = c.requires.slots in
    let w = c.put_digits in
    let sized : length w.new.tests ≡ a.slots.count =
    w.auto.tests ∙ length-take-le c.from.result _ (omega (arith, c.from.ensures, wide)) ∙ c.from.ensures in
    let r = c.join_digits.ensures in
    let whole = segment_is t d a.out.now.pen.next wide.0 sized w.ensures.fills w.new.out.pen.next w.ensures.wrote.moved.0 in
    record { wrote = same_writes (sym whole.0) (follows w.ensures.wrote r.wrote); output = r.output ∙ sym whole.1 }
