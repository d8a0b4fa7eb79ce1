-- From what a card says and what its conditions count to what Forecast answers:
-- the conditions are those of the accepted card, the numbers are the formulas' numbers, and these are what its table reports.
-- Assumes nothing.
use Rattle.std.proofs.Common.{◌≡◌, refl, sym, ap, ap₂, subst, List, ℕ, ◌+◌, ◌-◌, arith}
use Rattle.answer.specs.Outcome.{refused, accepted}
use Rattle.answer.specs.Report.{Report}
use Rattle.answer.proofs.Outcome.{was_refused}
use Rattle.field.specs.Logarithm.{clog}
use Rattle.comparison.specs.Condition.{Condition}
use Rattle.comparison.specs.Formulas.{condition_products, condition_squares}
use Rattle.query.specs.Card.{Card}
use Rattle.query.specs.Form.{Question, YesOrNo, Score, question_of}
use Rattle.query.specs.Formulas.{gate_count, levels_above, product_count, square_count, numbers_of}
use Rattle.query.specs.Outcomes.{forecasting}
use Rattle.query.specs.Reading.{read_card}
use Rattle.query.proofs.CardFacts.{accepted_card}
use Rattle.query.proofs.OverConditions.{over_cost}
use Rattle.query.proofs.Promises.{reported_numbers}
use Rattle.forecast.specs.Counting.{totals_of, InRanges, levels_of, report_from}
use Rattle.card.specs.declared.CardHead.{CardHead}
use Rattle.card.specs.Conditions.{ReadAs, conditions_of}
use Rattle.card.specs.Parts.{Summary, summary, head_is, read_summary}
use Rattle.card.proofs.ReadAs.{known_as}
use Rattle.circuit.proofs.Sums.{clog_largest}

pub refused_too : (bytes : List ℕ) (number : ℕ) → refused number ≡ read_summary bytes → refused number ≡ forecasting bytes
refused_too bytes number e = rw (was_refused number (read_card bytes) summary e)

-- the formulas' levels, by what is asked
levels_are : (q : Question) (p : ℕ) (cs : List Condition) → levels_of q (totals_of p cs) ≡ levels_above q cs
levels_are YesOrNo p cs = refl
levels_are Score p cs = clog_largest (λ (c : Condition). c.digits) cs

-- the formulas' numbers: products and squares are paid apart
numbers_are : (card : Card) → report_from (summary card) (totals_of card.prime card.conditions) ≡ numbers_of card
numbers_are card =
    let p = card.prime in
    let s = card.weight in
    let parts = over_cost s (condition_products p) (condition_squares p) card.conditions in
    ap₂ told (omega (arith, parts)) (levels_are (question_of card.form) p card.conditions)
  where
    told : ℕ → ℕ → Report
    told cost levels = record {
      gates = gate_count card;
      products = product_count card;
      squares = square_count card;
      cost = cost;
      depth = clog (card.prime - 1) + levels;
    }

-- what Forecast needs to know of a card that was read
pub record Says (bytes : List ℕ) (said : Summary) : Type 0 where
  pub ranges : InRanges said
  pub forecast : accepted (report_from said (totals_of said.prime (conditions_of bytes))) ≡ forecasting bytes

card_says : (bytes : List ℕ) (card : Card) → read_card bytes ≡ accepted card → conditions_of bytes ≡ card.conditions → Says bytes (summary card)
card_says bytes card e are =
    let known = accepted_card bytes card e in
    record {
      ranges = (known.prime.low, known.prime.high, known.weight.1, known.count.0, known.count.1);
      forecast = rw (are, numbers_are card, e) (ap accepted (sym (reported_numbers bytes card e)));
    }

pub says : (bytes : List ℕ) (head : CardHead) → ReadAs bytes head → Says bytes (head_is head)
says bytes head e =
    let all = known_as bytes head e in
    subst (Says bytes) (sym all.says) (card_says bytes all.card all.reads all.conditions)
