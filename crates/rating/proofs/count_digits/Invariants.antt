-- `rating::count_digits` meets its contract. The invariant is `CountsDigits`: with those of the conditions that are left, the digits so far
-- are those of all.
-- Assumes nothing.
use Rattle.std.proofs.Common.{◌≤◌, length}
use Rattle.card.specs.Conditions.{conditions_of}
use Rattle.rating.proofs.Counting.{CountsDigits}
use Rattle.rating.proofs.count_digits.Given as goal

abbrev pub invariant-loop-condition : goal.invariant-loop-condition
invariant-loop-condition l =
    CountsDigits (conditions_of l.fn.card.bytes.now) (length l.yielded) l.all l.higher × (l.higher ≤ l.all)
