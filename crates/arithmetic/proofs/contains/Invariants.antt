use Rattle.std.proofs.Common.{◌≡◌, ◌||◌, drop}
use Rattle.field.specs.Member.{member}
use Rattle.arithmetic.proofs.contains.Given as goal

abbrev pub invariant-loop-entry : goal.invariant-loop-entry
invariant-loop-entry l = (l.found || member l.x (drop l.entry-index l.list)) ≡ member l.x l.list
