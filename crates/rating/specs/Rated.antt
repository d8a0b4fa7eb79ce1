-- Step sizes as they are rated: the report on the table of each, and what rating goes by.
use Rattle.std.specs.Prelude.{◌≡◌, List, ℕ, ◌≤◌, ltb, length}
use Rattle.answer.specs.Outcome.{Answer, refused, accepted, refuse}
use Rattle.answer.specs.Report.{Report}
use Rattle.digits.specs.Number.{most_digits}
use Rattle.circuit.specs.Report.{report}
use Rattle.circuit.specs.Table.{most_gates}
use Rattle.comparison.specs.Tests.{equality_test}
use Rattle.query.specs.Card.{Card}
use Rattle.query.specs.Reading.{read_card}
use Rattle.query.specs.Whole.{table_of}
use Rattle.offer.specs.Offer.{step_table}
use Rattle.powers.specs.Prepared.{Prepared}
use Rattle.card.specs.declared.CardHead.{CardHead}
use Rattle.card.specs.Conditions.{conditions_of}
use Rattle.rating.specs.declared.OrderDigits.{OrderDigits}
use Rattle.offer.specs.Digits.{order_digits, higher_digits}

-- the report on the table of a step size, or 14 where its gates are too many for a table
abbrev pub rated : Card → ℕ → Answer Report
rated card step = refuse (ltb most_gates (length (step_table card step).gates)) (refused 14) (accepted (report (step_table card step)))

-- ---- what rating a step size goes by

-- of a card that was read, the gate count of its base table, its order digits, how many gates E of a digit has, and what order digits go by
pub record Searching (bytes : List ℕ) (head : CardHead) (base : ℕ) (digits : OrderDigits) (equal : ℕ) (constants depths : List ℕ) : Type 0 where
  pub ground : (card : Card) → read_card bytes ≡ accepted card → base ≡ length (table_of card).gates
  pub all : digits.all ≡ order_digits (conditions_of bytes)
  pub higher : digits.higher ≡ higher_digits (conditions_of bytes)
  pub few : (digits.all ≤ most_digits) × (digits.higher ≤ digits.all)
  pub tested : (equal ≡ (equality_test head.prime).count) × (equal ≤ head.prime)
  pub prepared : Prepared head.prime constants depths
