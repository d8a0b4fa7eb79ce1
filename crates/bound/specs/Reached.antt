-- The bound cannot be raised: for every listed p there is a zero test that is exactly ceil(log2(p-1)) deep; and so is what Build writes for "=" of one digit.
-- Proved in `proofs/Reached.antt`.
use Rattle.std.specs.Prelude.{◌≡◌, true, false, List, [], ◌∷◌, ◌++◌, ℕ, ◌-◌}
use Rattle.answer.specs.Outcome.{accepted}
use Rattle.field.specs.Logarithm.{clog}
use Rattle.field.specs.Primes.{listed}
use Rattle.circuit.specs.Depth.{depth}
use Rattle.circuit.specs.Gate.{Left}
use Rattle.circuit.specs.Table.{Both, Table, table_bytes, wrong_weight}
use Rattle.comparison.specs.Bits.{bits}
use Rattle.comparison.specs.Condition.{Condition}
use Rattle.comparison.specs.EqualityDigit.{zero_chain}
use Rattle.comparison.specs.Relation.{Equal}
use Rattle.query.specs.Card.{Card, AsksYesOrNo}
use Rattle.query.specs.Form.{condition_at}
use Rattle.query.specs.Promises.{gates_of}
use Rattle.query.specs.Reading.{read_card}
use Rattle.bound.specs.ZeroTests.{TestsZero, IsZeroTest}

-- ---- a zero test as the bound has it

-- LEFT, and the chain of document 01's equality digit over it: 1 - x^(p-1)
abbrev pub zero_test_table : ℕ → ℕ → Table
zero_test_table p s = record {
  head = record { prime = p; weight = s; slots = Both 1 };
  gates = Left 0 ∷ zero_chain (bits (p - 1)) 1 0;
}

-- for every listed p, whatever the weight, the right list and what stands after the table
abbrev pub BoundReached : Type 0
BoundReached =
    (p s : ℕ) (right later : List ℕ) → listed p ≡ true → wrong_weight s ≡ false
    → IsZeroTest (table_bytes (zero_test_table p s) ++ later) right (zero_test_table p s)
    × (depth (zero_test_table p s).gates ≡ clog (p - 1))

-- ---- the one that Build writes

-- "5 =" of one digit, over the first slot of each side
abbrev pub equal_of_one_digit : Condition
equal_of_one_digit = condition_at 0 0 Equal 1 0

-- of every accepted card that asks this alone: with the digit 0 in the query, which a RIGHT gate reads, its table tests for 0,
-- right at every value below p and not only at digits
abbrev pub BuildReaches : Type 0
BuildReaches =
    (bytes : List ℕ) (card : Card) → read_card bytes ≡ accepted card → AsksYesOrNo card → card.conditions ≡ equal_of_one_digit ∷ []
    → TestsZero card.prime (0 ∷ []) (gates_of card) × (depth (gates_of card) ≡ clog (card.prime - 1))
