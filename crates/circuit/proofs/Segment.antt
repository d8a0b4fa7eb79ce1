-- Nodes: equal gates at equal depths.
-- Assumes nothing.
use mathlib.Core.Path.{◌≡◌}
use Prim.Native.Nat.{ℕ}
use Rattle.circuit.specs.Segment.{Node}

pub node_same : {g h d e : ℕ} → g ≡ h → d ≡ e → ◌≡◌ {A = Node} (record { gate = g; depth = d }) (record { gate = h; depth = e })
node_same gates depths = rw (gates, depths)
