use Rattle.std.proofs.Common.{arith}
use Rattle.comparison.specs.Bits.{bits}
use Rattle.comparison.specs.EqualityDigit.{power}
use Rattle.writer.proofs.Leaves.{leaves_all, leaves_as, leaves_room}
use Rattle.equality.proofs.Chain.{chain_some, chain_end, product_room, after_later}
use Rattle.equality.proofs.Depth.{collects_first, collects_later, collects_shallow, square_deep}
use Rattle.equality.proofs.put_collected.Goals as goal

pub loop-rest-init : goal.loop-rest-init
loop-rest-init c = (collects_first _ _, leaves_all (omega arith) (omega arith))

pub multiply-running-requires : goal.multiply-running-requires
multiply-running-requires c =
    let l = c.loop-rest in
    let flat = collects_shallow _ _ _ _ c.loop-rest-test.true c.requires.1 l.invariant.0 in
    let some = chain_some (bits l.rest) l.out.pen.next l.running.gate (power l.collected.gate) in
    (leaves_room 1 c.requires.0 l.invariant.1 some, omega (arith, flat), omega (arith, flat))

pub collect-collected-requires : goal.collect-collected-requires
collect-collected-requires c =
    let m = c.multiply-running in
    let l = c.loop-rest in
    let flat = collects_shallow _ _ _ _ c.loop-rest-test.true c.requires.1 l.invariant.0 in
    let deep = square_deep l.out.pen.next l.running m.result m.ensures.deepens in
    let room = product_room l.rest c.loop-rest-test.true l.running l.collected m.result m.ensures.wrote m.ensures.deepens l.invariant.1 c.requires.0 in
    (room, omega (arith, flat), omega (arith, flat, deep))

pub loop-rest-preserved : goal.loop-rest-preserved
loop-rest-preserved c =
    let w = c.collect-collected in
    let m = c.multiply-running in
    let l = c.loop-rest in (
      collects_later _ l.rest _ _ l.running l.collected m.result w.result m.ensures.deepens w.ensures.deepens l.invariant.0,
      after_later l.rest c.loop-rest-test.true l.running l.collected m.result m.ensures.wrote m.ensures.deepens l.invariant.1
          w.result w.ensures.wrote w.ensures.deepens,
    )

pub put-requires : goal.put-requires
put-requires c =
    let l = c.loop-rest in
    leaves_room 1 c.requires.0 l.invariant.1 (chain_some (bits l.rest) l.out.pen.next l.running.gate (power l.collected.gate))

pub returns-clause-wrote : goal.returns-clause-wrote
returns-clause-wrote c =
    let l = c.loop-rest in (leaves_as (chain_end l.rest _ _ _ (omega arith)) l.invariant.1).gives _ c.put.ensures
