use Rattle.std.proofs.Common.{ap, ◌∙◌, [], ◌∷◌, ◌++◌, ◌-◌, ◌<◌, arith}
use Rattle.tree.proofs.Factors.{first, single, two_taken, product_last}
use Rattle.tree.proofs.ProductTree.{turn, ended, shallow_two, shallow_turn}
use Rattle.tree.proofs.put_product_tree.Goals as goal

pub multiply-requires : goal.multiply-requires
multiply-requires c =
    let l = c.loop-left in
    let some : 1 < l.left = c.loop-left-test.true in
    let a = c.take_least-a in
    let b = c.take_least-b in
    let pair = two_taken (l.left - 1) l.nodes a.new.nodes b.new.nodes (omega arith) (omega arith) a.auto.nodes b.auto.nodes l.left (omega arith)
    a.ensures.chosen a.ensures.others b.ensures.chosen b.ensures.others in
    let low = shallow_two l.left pair.0 pair.1 l.invariant.3 in
    ((omega arith, omega arith, omega arith, omega arith), omega (arith, low.0), omega (arith, low.1))

pub loop-left-preserved : goal.loop-left-preserved
loop-left-preserved c =
    let l = c.loop-left in
    let some : 1 < l.left = c.loop-left-test.true in
    let a = c.take_least-a in
    let b = c.take_least-b in
    let p = c.multiply in
    let pair = two_taken (l.left - 1) l.nodes a.new.nodes b.new.nodes (omega arith) (omega arith) a.auto.nodes b.auto.nodes l.left (omega arith)
    a.ensures.chosen a.ensures.others b.ensures.chosen b.ensures.others in
    let last = product_last (l.left - 1) l.nodes a.new.nodes b.new.nodes (omega arith) (omega arith) a.auto.nodes b.auto.nodes _ p.result
    ∙ ap (λ t. first (l.left - 1 - 1) b.new.nodes ++ (t ∷ [])) p.ensures.deepens in (
      omega arith,
      omega arith,
      omega arith,
      shallow_turn l.left l.out.pen.next (omega arith) pair.0 pair.1 last l.invariant.3,
      turn l.invariant.4 pair.0 pair.1 p.ensures.wrote last,
    )

pub returns-clause-wrote : goal.returns-clause-wrote
returns-clause-wrote c = let l = c.loop-left in (ended l.invariant.4 (single l.left l.nodes (omega arith) (omega arith)) (omega arith) (omega arith)).0

pub returns-clause-output : goal.returns-clause-output
returns-clause-output c = let l = c.loop-left in (ended l.invariant.4 (single l.left l.nodes (omega arith) (omega arith)) (omega arith) (omega arith)).1
