use Rattle.std.proofs.Common.{[], ◌∷◌, ap, ℕ}
use Rattle.circuit.specs.Gate.{Add, Mul}
use Rattle.circuit.specs.Segment as segment
use Rattle.writer.proofs.Writing.{same_writes, follows}
use Rattle.joining.proofs.put_less.Goals as goal

pub returns-clause-wrote : goal.returns-clause-wrote
returns-clause-wrote c =
    let a = c.args in
    let both = c.multiply-both.ensures in
    let product = ap (λ (n : segment.Node). n.gate) both.deepens in
    same_writes (ap (λ (k : ℕ). Mul a.high.equal.gate a.low.gate ∷ Add a.high.less.gate k ∷ []) product) (follows both.wrote c.put.ensures)
