-- `forecast::count_conditions` meets its contract. The invariant is `Adds`: the counts of the conditions counted so far,
-- with those of the conditions that are left, give the whole; and they are no more than a card has.
-- Assumes nothing.
use Rattle.std.proofs.Common.{◌≤◌, length}
use Rattle.query.specs.Card.{most_conditions}
use Rattle.card.specs.Conditions.{conditions_of}
use Rattle.forecast.proofs.AddingUp.{Adds}
use Rattle.forecast.proofs.count_conditions.Given as goal

abbrev pub invariant-loop-condition : goal.invariant-loop-condition
invariant-loop-condition l =
    Adds l.fn.card.head.prime (conditions_of l.fn.card.bytes.now) (length l.yielded) l.totals
    × (length l.yielded ≤ most_conditions)
