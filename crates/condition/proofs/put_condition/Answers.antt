use Rattle.std.proofs.Common.{refl, sym, ◌∙◌, arith}
use Rattle.step.specs.Digit.{tests_by}
use Rattle.step.proofs.Promises.{by_lawful}
use Rattle.order.specs.Slots.{order_condition}
use Rattle.relations.specs.Relations.{relation_is}
use Rattle.condition.proofs.Relations.{order_is, equality_is, size, ends, either_room, either_moved}
use Rattle.condition.proofs.put_condition.Goals as goal

pub put_order-order-requires-clause-room : goal.put_order-order-requires-clause-room
put_order-order-requires-clause-room c =
    let a = c.args in
    let t = tests_by a.m.p a.step in
    let asked = c.requires.suits in
    let flipped = c.is_flipped-flipped.result in
    let order = order_is t a.m.p (relation_is a.relation) a.slots a.out.now.pen.next flipped c.is_backward-backward.result
    (sym c.is_order.ensures ∙ c.if-is_order.true) c.is_flipped-flipped.ensures c.is_backward-backward.ensures in
    let lawful = by_lawful a.m.p a.step a.m.least a.m.odd asked.0.low in
    either_room a.m.p t lawful (order_condition c.is_backward-backward.result a.slots) _ refl a.out.now.pen.next asked.1.0 a.out.now
    (omega (arith, size a.out.now.pen.next flipped _ _ order, c.requires.room))

pub put_ending-requires : goal.put_ending-requires
put_ending-requires c =
    let a = c.args in
    let t = tests_by a.m.p a.step in
    let asked = c.requires.suits in
    let flipped = c.is_flipped-flipped.result in
    let order = order_is t a.m.p (relation_is a.relation) a.slots a.out.now.pen.next flipped c.is_backward-backward.result
    (sym c.is_order.ensures ∙ c.if-is_order.true) c.is_flipped-flipped.ensures c.is_backward-backward.ensures in
    let lawful = by_lawful a.m.p a.step a.m.least a.m.odd asked.0.low in
    let moved = either_moved a.m.p t lawful _ (order_condition c.is_backward-backward.result a.slots) refl a.out.now.pen.next asked.1.0 a.out.now.pen _ c.put_order-order.ensures.wrote.moved in
    omega (arith, size a.out.now.pen.next flipped _ _ order, c.requires.room, moved, c)

pub returns-then-is_order : goal.returns-then-is_order
returns-then-is_order c =
    let a = c.args in
    let flipped = c.is_flipped-flipped.result in
    let order = order_is (tests_by a.m.p a.step) a.m.p (relation_is a.relation) a.slots a.out.now.pen.next flipped c.is_backward-backward.result
    (sym c.is_order.ensures ∙ c.if-is_order.true) c.is_flipped-flipped.ensures c.is_backward-backward.ensures in
    let w = c.put_order-order in
    let r = c.put_ending in
    let whole = ends a.out.now.pen.next flipped _ _ order w.result r.result refl w.ensures.wrote w.ensures.output r.ensures.wrote r.ensures.output in
    record { wrote = whole.0; output = whole.1 }

pub put_equality-equality-requires : goal.put_equality-equality-requires
put_equality-equality-requires c =
    let a = c.args in
    let flipped = c.is_flipped-flipped.result in
    let equality = equality_is (tests_by a.m.p a.step) a.m.p (relation_is a.relation) a.slots a.out.now.pen.next flipped
    (sym c.is_order.ensures ∙ c.if-is_order.false) c.is_flipped-flipped.ensures in
    record { room = omega (arith, size a.out.now.pen.next flipped _ _ equality, c.requires.room); slots = c.requires.suits.1 }

pub put_ending-requires-2 : goal.put_ending-requires-2
put_ending-requires-2 c =
    let a = c.args in
    let flipped = c.is_flipped-flipped.result in
    let equality = equality_is (tests_by a.m.p a.step) a.m.p (relation_is a.relation) a.slots a.out.now.pen.next flipped
    (sym c.is_order.ensures ∙ c.if-is_order.false) c.is_flipped-flipped.ensures in
    omega (arith, size a.out.now.pen.next flipped _ _ equality, c.requires.room, c.put_equality-equality.ensures.wrote.moved, c)

pub returns : goal.returns
returns c =
    let a = c.args in
    let flipped = c.is_flipped-flipped.result in
    let equality = equality_is (tests_by a.m.p a.step) a.m.p (relation_is a.relation) a.slots a.out.now.pen.next flipped
    (sym c.is_order.ensures ∙ c.if-is_order.false) c.is_flipped-flipped.ensures in
    let w = c.put_equality-equality in
    let r = c.put_ending-2 in
    let whole = ends a.out.now.pen.next flipped _ _ equality w.result r.result refl w.ensures.wrote w.ensures.output r.ensures.wrote r.ensures.output in
    record { wrote = whole.0; output = whole.1 }
