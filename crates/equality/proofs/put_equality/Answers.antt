use Rattle.std.proofs.Common.{◌≡◌, ◌∙◌, length, arith}
use Rattle.std.proofs.lemmas.List.{length-map, length-take-le}
use Rattle.writer.specs.Nodes.{node_is}
use Rattle.equality.proofs.Joining.{digits_within, outputs_shallow, whole_length, whole_output, whole_wrote}
use Rattle.equality.proofs.put_equality.Goals as goal

pub put_equality_digits-requires-clause-room : goal.put_equality_digits-requires-clause-room
put_equality_digits-requires-clause-room c =
    let a = c.args in omega (arith, digits_within a.modulus.p a.slots a.out.now.pen.next)

pub put_product_tree-requires : goal.put_product_tree-requires
put_product_tree-requires c =
    let a = c.args in
    let e = c.put_equality_digits in
    let are = e.ensures.outputs in
    let sized : length e.new.nodes ≡ a.slots.count = e.auto.nodes ∙ length-take-le c.from.result _ (omega (arith, c.from.ensures)) ∙ c.from.ensures in
    let size = whole_length a.modulus.p a.slots a.out.now.pen.next are (length-map e.new.nodes node_is ∙ sized) in
    record { room = omega (arith, size, sized); shallow = rw sized (outputs_shallow a.modulus.p a.slots a.out.now.pen.next are (omega arith) (omega arith)) }

pub returns : goal.returns
returns c =
    let a = c.args in
    let p = a.modulus.p in
    let w = c.put_product_tree in
    let e = c.put_equality_digits in
    let are = e.ensures.outputs in
    let sized : length e.new.nodes ≡ a.slots.count = e.auto.nodes ∙ length-take-le c.from.result _ (omega (arith, c.from.ensures)) ∙ c.from.ensures in
    let size = whole_length p a.slots a.out.now.pen.next are (length-map e.new.nodes node_is ∙ sized) in
    record {
      wrote = whole_wrote p a.slots are e.ensures.wrote w.ensures.wrote;
      output = w.ensures.output ∙ whole_output p a.slots a.out.now.pen.next are _ e.ensures.wrote.moved.0;
    }
