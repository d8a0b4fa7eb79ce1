-- The gates and depths of the outputs so far stand over zeros.
-- Assumes nothing.
use Rattle.std.proofs.Common.{◌≡◌, replicate}
use Rattle.query.specs.Card.{most_conditions}
use Rattle.writer.specs.declared.Node.{Node}
use Rattle.packing.proofs.Over.{over}
use Rattle.packing.proofs.spread.Given as goal

abbrev pub invariant-loop-k : goal.invariant-loop-k
invariant-loop-k l =
    (l.gates ≡ over (λ (f : Node). f.gate) l.outputs (replicate most_conditions 0) l.k)
    × (l.depths ≡ over (λ (f : Node). f.depth) l.outputs (replicate most_conditions 0) l.k)
