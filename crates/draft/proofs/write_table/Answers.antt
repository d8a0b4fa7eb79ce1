use Rattle.std.proofs.Common.{sym, ap, ◌∙◌, arith, refl, replicate}
use Rattle.std.proofs.Math.Seq.{length-take-le}
use Rattle.circuit.specs.Segment as segment
use Rattle.query.specs.Card.{most_conditions}
use Rattle.writer.specs.declared.Node.{Node}
use Rattle.writer.specs.declared.Pen.{Pen}
use Rattle.writer.specs.declared.Written.{Written}
use Rattle.card.proofs.ReadAs.{as_many}
use Rattle.draft.proofs.Drawing.{suits_said, ready_said, room_said, shallow_said, draws_said}
use Rattle.draft.proofs.write_table.Goals as goal

pub slice_bounds-nodes-end : goal.slice_bounds-nodes-end
slice_bounds-nodes-end c =
    let card = c.args.card in
    omega (arith, c.from.ensures, as_many card.bytes.now card.head card.read)

pub slice_bounds-outputs-end : goal.slice_bounds-outputs-end
slice_bounds-outputs-end c =
    let card = c.args.card in
    sym (length-take-le _ _ (omega (arith, c.from.ensures, as_many card.bytes.now card.head card.read)))

pub put_conditions-requires : goal.put_conditions-requires
put_conditions-requires c =
    let card = c.args.card in
    let room = room_said c.requires in
    let next = ap (λ (pen : Pen). pen.next) c.new.ensures in
    let products = ap (λ (pen : Pen). pen.products) c.new.ensures in
    let squares = ap (λ (pen : Pen). pen.squares) c.new.ensures in
    record {
      suits = suits_said c.requires;
      starts = c.new.ensures;
      room = (omega (arith, room, next, c), omega (arith, room, next), omega (arith, products), omega (arith, squares));
      ready = ready_said c.requires;
      outputs = length-take-le _ _ (omega (arith, c.from.ensures, as_many card.bytes.now card.head card.read)) ∙ c.from.ensures;
    }

pub put_end-node-requires-clause-endable : goal.put_end-node-requires-clause-endable
put_end-node-requires-clause-endable c =
    let card = c.args.card in
    let e = c.put_conditions.ensures in
    let all = as_many card.bytes.now card.head card.read in
    let none : Node = record { gate = 0; depth = 0 } in
    let long = length-take-le c.from.result (replicate most_conditions none) (omega (arith, c.from.ensures, all)) in
    let next = ap (λ (pen : Pen). pen.next) c.new.ensures in
    let room = room_said c.requires in
    record {
      room = (omega (arith, room, next, e.wrote.moved, e.wrote.size, c), omega (arith, room, next, e.wrote.moved), e.wrote.moved.1, e.wrote.moved.2);
      outputs = omega (arith, c.from.ensures, long, c);
    }

pub put_end-node-requires-clause-shallow : goal.put_end-node-requires-clause-shallow
put_end-node-requires-clause-shallow c = shallow_said c.requires c.put_conditions.ensures.outputs refl

-- what the conditions and the end wrote over the head is the card's table, and the writer held the lent one all along
pub returns : goal.returns
returns c card said =
    let e = c.put_conditions.ensures in
    let r = c.put_end-node.ensures in
    let first = rw c.new.ensures at e.wrote.wrote in
    let written : Written = record { pen = c.put_end-node.new.out.pen; node = c.put_end-node.result } in
    let drawn = draws_said c.requires e.outputs {written = written} c.slot_counts.ensures c.put_head.ensures first r.wrote.wrote (ap (λ (f : segment.Node). f.depth) r.output) card said in
    let lent = sym (r.wrote.lent ∙ e.wrote.lent) in
    record {
      leaves = grind (arith, drawn.leaves, lent);
      number = drawn.number;
      products = drawn.products;
      squares = drawn.squares;
      deep = drawn.deep;
    }
