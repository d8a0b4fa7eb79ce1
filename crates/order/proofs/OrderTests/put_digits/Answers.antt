use Rattle.std.proofs.Common.{◌≡◌, ap, ◌∙◌, ◌-◌, arith}
use Rattle.comparison.specs.Digits.{digits_from, order_digit, order_start}
use Rattle.comparison.specs.Tests.{less_node, equal_node}
use Rattle.comparison.proofs.Digits.{digits_cons}
use Rattle.step.specs.Digit.{tests_by}
use Rattle.step.proofs.Promises.{by_lawful}
use Rattle.writer.proofs.Leaves.{leaves_as, leaves_then, leaves_none}
use Rattle.writer.proofs.Writing.{same_writes}
use Rattle.order.specs.Slots.{order_condition}
use Rattle.order.proofs.Digits.{digit_room, digit_next, listed_next}
use Rattle.order.proofs.OrderTests.put_digits.Goals as goal

pub put_digit-requires-clause-room : goal.put_digit-requires-clause-room
put_digit-requires-clause-room c =
    let a = c.args in
    let l = c.loop-j in
    let room = digit_room (tests_by a.self.m.p a.self.step) (order_condition a.backward a.slots) a.out.now.pen.next a.slots.count l.j l.out.pen.next
    c.loop-j-test.true l.invariant.0 l.invariant.1.number in
    omega (arith, room, l.invariant, c.requires.room)

pub loop-j-preserved : goal.loop-j-preserved
loop-j-preserved c =
    let a = c.args in
    let l = c.loop-j in
    let inv = l.invariant in
    let m = a.self.m in
    let some = c.loop-j-test.true in
    let t = tests_by m.p a.self.step in
    let d = order_condition a.backward a.slots in
    let k = a.out.now.pen.next in
    let n = a.slots.count in
    let e = c.put_digit.ensures in
    let left = leaves_as (digits_cons (order_digit t d) (order_start t k) n l.j some) inv.1 in
    let here = inv.0 in (
      digit_next t d k n l.j _ some here (by_lawful m.p a.self.step m.least m.odd a.self.suits.low) e.wrote.moved.0,
      leaves_then left (same_writes (ap (order_digit t d l.j) here) e.wrote),
      rw c.from.ensures (listed_next t k l.j (omega arith) inv.2 (e.less ∙ ap (less_node t) here) (λ upper. e.equal upper ∙ ap (equal_node t) here)),
    )

pub returns : goal.returns
unfolding digits_from
returns c =
    let inv = c.loop-j.invariant in
    let a = c.args in
    let end : c.loop-j.j ≡ a.slots.count = omega arith in
    let none_left : a.slots.count - c.loop-j.j ≡ 0 = omega arith in
    record { wrote = leaves_none (rw none_left at inv.1); fills = rw end at inv.2 }
