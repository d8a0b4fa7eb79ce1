use Rattle.std.proofs.Common.{◌≡◌, ℕ, List, add-one, arith, ◌+◌, ◌<◌, ◌≤◌, length, get_or, replicate}
use Rattle.std.proofs.Math.ListN.{set}
use Rattle.query.specs.Card.{most_conditions}
use Rattle.writer.specs.declared.Node.{Node}
use Rattle.packing.proofs.Over.{over, next}
use Rattle.packing.proofs.spread.Goals as goal

-- one output more, by its gate or by its depth
turn : (f : Node → ℕ) (outputs : List Node) (list : List ℕ) (k : ℕ) → list ≡ over f outputs (replicate most_conditions 0) k → k < length outputs
    → length outputs ≤ most_conditions
    → set list k (f (get_or outputs k (record { gate = 0; depth = 0 }))) ≡ over f outputs (replicate most_conditions 0) (k + 1)
turn f outputs list k is l few =
    rw (is, add-one k) (next f outputs (record { gate = 0; depth = 0 }) (replicate most_conditions 0) k l (omega (arith, few)))

pub loop-k-preserved : goal.loop-k-preserved
loop-k-preserved c =
    let l = c.loop-k in
    let more : l.k < length c.args.outputs.now = omega arith in
    (turn (λ (f : Node). f.gate) _ _ l.k l.invariant.0 more c.requires, turn (λ (f : Node). f.depth) _ _ l.k l.invariant.1 more c.requires)
