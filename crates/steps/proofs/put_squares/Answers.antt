use Rattle.std.proofs.Common.{◌≡◌, [], ◌∷◌, ◌+◌, ◌-◌, arith}
use Rattle.circuit.specs.Gate.{Mul}
use Rattle.writer.proofs.Leaves.{leaves_as, leaves_then, leaves_none}
use Rattle.steps.proofs.Squares.{squares_cons, squares_none}
use Rattle.steps.proofs.put_squares.Goals as goal

pub loop-preserved : goal.loop-preserved
loop-preserved c =
    let l = c.loop in
    let g = c.args.out.now.pen.next - 1 in
    let here : l.out.pen.next - 1 ≡ g + l.counter = omega arith in
    let split = squares_cons c.args.n l.counter g (omega arith) in (
      omega arith,
      leaves_then {gs = Mul (g + l.counter) (g + l.counter) ∷ []} (leaves_as split l.invariant.1) (rw here at c.put.ensures),
    )

pub returns-clause-wrote : goal.returns-clause-wrote
returns-clause-wrote c =
    let l = c.loop in
    let g = c.args.out.now.pen.next - 1 in
    leaves_none (leaves_as (squares_none c.args.n l.counter (g + l.counter) (omega arith)) l.invariant.1)
