use Rattle.std.proofs.Common.{◌-◌, arith, le_refl}
use Rattle.writer.proofs.Leaves.{leaves_room}
use Rattle.equality.proofs.Chain.{chain_size}
use Rattle.equality.proofs.put_zero_test.Goals as goal

pub put_squares-first-requires : goal.put_squares-first-requires
put_squares-first-requires c =
    let a = c.args in
    omega (arith, chain_size (a.modulus.p - 1) a.out.now.pen.next a.z (omega arith))

pub put_collected-requires : goal.put_collected-requires
put_collected-requires c =
    let q = c.put_squares-first.ensures in
    let a = c.args in
    let size = chain_size (a.modulus.p - 1) a.out.now.pen.next a.z (omega arith) in
    (leaves_room _ (omega (arith, size)) q.leaves (le_refl _), omega (arith, q.deepens))

pub returns-clause-wrote : goal.returns-clause-wrote
returns-clause-wrote c = c.put_squares-first.ensures.leaves.gives _ c.put_collected.ensures.wrote

pub returns-clause-moves : goal.returns-clause-moves
returns-clause-moves c =
    let a = c.args in
    omega (arith, chain_size (a.modulus.p - 1) a.out.now.pen.next a.z (omega arith), c.put_squares-first.ensures.leaves.number, c.put_collected.ensures.wrote.moved)
