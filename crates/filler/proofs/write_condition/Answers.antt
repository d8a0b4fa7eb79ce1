use Rattle.std.proofs.Common.{length, sym, arith}
use Rattle.comparison.specs.Condition.{Condition}
use Rattle.comparison.specs.Writing.{condition_segment}
use Rattle.filling.specs.State.{BuildState}
use Rattle.relations.specs.Relations.{relation_is}
use Rattle.state.specs.State.{state_is}
use Rattle.state.proofs.Open.{open_facts, open_room}
use Rattle.filler.specs.Steps.{condition_next}
use Rattle.filler.proofs.Adding.{own_size, few_gates, condition_leaves, condition_counts}
use Rattle.filler.proofs.write_condition.Goals as goal

pub invariant_of-m : goal.invariant_of-m
invariant_of-m c =
    let prime = (open_facts (state_is c.args.state.now) c.requires.takes.is_open).prime in
    record { least = rw c.from.ensures prime.low; odd = rw c.from.ensures prime.odd; byte = rw c.from.ensures (omega (arith, prime.high)) }

pub overflow_add-state-2 : goal.overflow_add-state-2
overflow_add-state-2 c = omega (arith, few_gates c.requires)

pub put_condition-node-requires-clause-room : goal.put_condition-node-requires-clause-room
put_condition-node-requires-clause-room c =
    let s = c.args.state.now in
    let state : BuildState = state_is s in
    let condition : Condition = condition_next state (relation_is c.args.relation) c.args.digits in
    let d = c.requires in
    let from = c.pen.result in
    let size = own_size d from.next in
    rw (c.from.ensures, c.from-2.ensures, c.from-slot.ensures)
    (open_room state from (length (condition_segment s.prime condition from.next).gates) c.put_head.new.table d.takes.is_open c.pen.ensures
    (omega (arith, c, d.room, size)) (omega (arith, few_gates d, size)))

pub grow-requires : goal.grow-requires
grow-requires c =
    let d = c.requires in
    let wrote = rw (c.from.ensures, c.from-2.ensures, c.from-slot.ensures) at c.put_condition-node.ensures.wrote.wrote in
    record { few = d.takes.few; slots = d.slots; counts = condition_counts d c.pen.ensures wrote }

pub returns-clause-leaves : goal.returns-clause-leaves
returns-clause-leaves c =
    let wrote = rw (c.from.ensures, c.from-2.ensures, c.from-slot.ensures) at c.put_condition-node.ensures.wrote.wrote in
    let left = condition_leaves c.requires c.pen.ensures wrote c.put_head.ensures in
    let lent = sym c.put_condition-node.ensures.wrote.lent in
    grind (arith, left, lent)
