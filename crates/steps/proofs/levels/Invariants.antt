-- `steps::levels` meets its contract. The invariant: the doublings so far and those that are left are all. The measure is how far p-1 is.
-- Assumes nothing.
use Rattle.std.proofs.Common.{◌≡◌, ◌+◌, ◌-◌, ◌*◌, ◌^◌, ◌≤◌, ◌<◌}
use Rattle.field.specs.Byte.{byte_values}
use Rattle.step.specs.Powers.{doublings, top_level}
use Rattle.steps.proofs.levels.Given as goal

abbrev pub invariant-loop-span : goal.invariant-loop-span
invariant-loop-span l =
    (l.count < l.span) × (l.span ≤ 2 * byte_values) × (l.span ≡ l.step * 2 ^ l.count)
    × (l.count + doublings (l.top - l.count) l.span (l.top) ≡ top_level l.fn.m.p l.step)

abbrev pub decreases-loop-span : goal.decreases-loop-span
decreases-loop-span l = l.top - l.span
