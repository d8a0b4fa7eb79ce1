use Rattle.std.proofs.Common.{arith, drop_of_length-le}
use Rattle.card.specs.Conditions.{conditions_of}
use Rattle.card.proofs.ReadAs.{as_many, slots_after}
use Rattle.card.proofs.accepted.ConditionsIterator.next.Goals as goal

pub returns-then-self-from-clause-steps : goal.returns-then-self-from-clause-steps
returns-then-self-from-clause-steps c =
    let card = c.args.self.now.card in
    let many = as_many card.bytes.now card.head card.read in
    let none = drop_of_length-le (conditions_of card.bytes.now) (omega (arith, many, c.if-self-from.true, c.from.ensures)) in
    (none, none)

pub overflow_add-self-2 : goal.overflow_add-self-2
overflow_add-self-2 c =
    let now = c.args.self.now in
    omega (arith, slots_after now.card.bytes.now now.card.head now.k now.slot _ now.card.read now.taken c.condition-condition.ensures)

pub invariant_of-self : goal.invariant_of-self
invariant_of-self c =
    let now = c.args.self.now in
    let next = slots_after now.card.bytes.now now.card.head now.k now.slot _ now.card.read now.taken c.condition-condition.ensures in
    record { few = omega (arith, now.few, c.if-self-from.false, c.from.ensures); taken = next.0 }
