-- An order condition but for its last FLIP, as the code holds it: which side is subtracted, and the slots of its digits.
use Rattle.std.specs.Prelude.{Bool, true, false, List, ℕ}
use Rattle.circuit.specs.Gate.{Gate}
use Rattle.comparison.specs.Condition.{Condition}
use Rattle.comparison.specs.Digits.{order_digits}
use Rattle.comparison.specs.Relation.{Relation, Less, Greater}
use Rattle.comparison.specs.Tests.{Tests}
use Rattle.writer.specs.declared.Slots.{Slots}
use Rattle.writer.specs.Slots.{condition_on}

-- the order relation without FLIP that subtracts so
abbrev pub order_relation : Bool → Relation
order_relation false = Less
order_relation true = Greater

abbrev pub order_condition : Bool → Slots → Condition
order_condition backward slots = condition_on (order_relation backward) slots

-- its digits with the tests t, from gate number k on
abbrev pub digits_by : Tests → Condition → ℕ → List Gate
digits_by t c k = order_digits t c k c.digits 0
