use Rattle.std.proofs.Common.{◌≡◌, true, sym, ◌∙◌, arith}
use Rattle.counter.specs.Chains.{is_linked}
use Rattle.counter.specs.Gates.{gates_of}
use Rattle.counter.proofs.Gates.{operands_lower}
use Rattle.counter.proofs.Linking.{linked_below}
use Rattle.counter.proofs.Table.link.Goals as goal

pub bounds-starts-high : goal.bounds-starts-high
bounds-starts-high c =
    let table = c.args.self.bytes.now in
    let linked : is_linked (gates_of table) c.args.marks.now c.args.k ≡ true = sym c.is_linked.ensures ∙ c.if-not-is_linked.false in
    omega (arith, linked_below (gates_of table) c.args.marks.now c.args.k (operands_lower table) (omega arith) linked)
