-- How many gates a step table has, from the base table's: the digits' tests make the difference.
-- Assumes nothing.
use mathlib.Core.Path.{◌≡◌}
use mathlib.Core.List.{List, [], ◌∷◌}
use Prim.Native.Nat.{ℕ, ◌+◌, ◌*◌}
use native.Mathlib.Omega.{arith}
use lib.ListN.{length}
use Rattle.answer.specs.Outcome.{accepted}
use Rattle.field.specs.Sum.{total}
use Rattle.comparison.specs.Condition.{Condition}
use Rattle.comparison.specs.Formulas.{test_gates}
use Rattle.comparison.specs.OrderDigit.{less_count}
use Rattle.comparison.specs.Tests.{Tests, base_tests, equality_test}
use Rattle.comparison.proofs.Lawful.{base_lawful}
use Rattle.step.specs.Digit.{IsStep, step_less, step_tests}
use Rattle.step.proofs.Promises.{step_lawful}
use Rattle.query.specs.Card.{Card, over_conditions}
use Rattle.query.specs.Reading.{read_card}
use Rattle.query.specs.Whole.{table_of}
use Rattle.query.proofs.AnyTests.{lawful_sizes}
use Rattle.query.proofs.CardFacts.{accepted_card}
use Rattle.offer.specs.Digits.{order_digits, higher_digits}
use Rattle.offer.specs.Offer.{step_table}

over_tests : (t : Tests) (cs : List Condition)
    → over_conditions (test_gates t) cs ≡ order_digits cs * t.less.count + higher_digits cs * t.equal.count
unfolding total
over_tests t [] = omega arith
over_tests t (c ∷ cs) = omega (arith, over_tests t cs)

pub step_gates : (bytes : List ℕ) (card : Card) (step : ℕ) → read_card bytes ≡ accepted card → IsStep card.prime step
    → let d = order_digits card.conditions in
    let h = higher_digits card.conditions in
    length (step_table card step).gates + (d * less_count card.prime + h)
    ≡ length (table_of card).gates + (d * (step_less card.prime step).count + h * (equality_test card.prime).count)
step_gates bytes card step e is =
    let p = card.prime in
    let known = accepted_card bytes card e in
    let first = base_lawful p known.prime.low known.prime.odd in
    let second = step_lawful p step known.prime.low known.prime.odd is in
    omega (
      arith,
      lawful_sizes bytes card (step_tests p step) (base_tests p) e second first,
      over_tests (base_tests p) card.conditions,
      over_tests (step_tests p step) card.conditions,
    )
