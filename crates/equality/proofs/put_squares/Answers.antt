use Rattle.std.proofs.Common.{suc, arith, le_of_eq}
use Rattle.comparison.specs.Bits.{bits}
use Rattle.comparison.specs.EqualityDigit.{nothing}
use Rattle.equality.proofs.Chain.{chain_start, chain_some, after_unset, after_set}
use Rattle.writer.proofs.Leaves.{leaves_all, leaves_as, leaves_room}
use Rattle.equality.proofs.Depth.{square_deep, halved, shallow}
use Rattle.equality.proofs.put_squares.Goals as goal

pub loop-rest-init : goal.loop-rest-init
loop-rest-init c =
    (omega arith, omega arith, leaves_as (chain_start c.args.t _ _ c.requires.1 c.requires.2) (leaves_all (omega arith) (omega arith)))

pub multiply-running-requires : goal.multiply-running-requires
multiply-running-requires c =
    let l = c.loop-rest in
    let deep = shallow (suc l.running.depth) l.rest c.args.t l.invariant.0 c.requires.3 (le_of_eq l.invariant.1) in
    let room = leaves_room 1 c.requires.0 l.invariant.2 (chain_some (bits l.rest) l.out.pen.next l.running.gate nothing) in
    (room, omega (arith, deep), omega (arith, deep))

pub loop-rest-preserved : goal.loop-rest-preserved
loop-rest-preserved c =
    let m = c.multiply-running in
    let l = c.loop-rest in
    let t = c.args.t in
    let deep = square_deep l.out.pen.next l.running m.result m.ensures.deepens in (
      omega arith,
      rw deep (halved l.running.depth l.rest t c.loop-rest-test.true l.invariant.1),
      after_unset l.rest l.running m.result m.ensures.wrote m.ensures.deepens l.invariant.2 l.invariant.0 c.loop-rest-test.true,
    )

pub multiply-requires : goal.multiply-requires
multiply-requires c =
    let l = c.loop-rest in
    let deep = shallow (suc l.running.depth) l.rest c.args.t l.invariant.0 c.requires.3 (le_of_eq l.invariant.1) in
    let room = leaves_room 1 c.requires.0 l.invariant.2 (chain_some (bits l.rest) l.out.pen.next l.running.gate nothing) in
    (room, omega (arith, deep), omega (arith, deep))

pub returns-clause-leaves : goal.returns-clause-leaves
returns-clause-leaves c =
    let m = c.multiply in
    let l = c.loop-rest in after_set l.rest l.running m.result m.ensures.wrote m.ensures.deepens l.invariant.2 (omega arith)
