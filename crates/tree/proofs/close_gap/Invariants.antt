-- `tree::close_gap` meets its contract. The invariant: without the entry before the next one the nodes are those without the gap.
-- Assumes nothing.
use Rattle.std.specs.List.{remove}
use Rattle.std.proofs.Common.{◌≡◌, ◌-◌}
use Rattle.tree.proofs.close_gap.Given as goal

abbrev pub invariant-loop-i : goal.invariant-loop-i
invariant-loop-i l = remove l.nodes (l.i - 1) ≡ remove l.initial.nodes l.place
