-- What Forecast adds up: the counts of a digit, of a condition and of all conditions (document 01, "Whole card"; document 02, E1),
-- and the report that they make. That they are those of the formulas is proved in `proofs/Counting.antt`.
use Rattle.std.specs.Prelude.{ℕ, ◌+◌, ◌-◌, ◌*◌, ◌^◌, ◌≤◌, Bool, true, false, List, map}
use Rattle.answer.specs.Report.{Report, cost_of}
use Rattle.field.specs.Logarithm.{clog}
use Rattle.digits.specs.Number.{most_digits}
use Rattle.circuit.specs.Sums.{largest}
use Rattle.circuit.specs.Table.{most_weight}
use Rattle.comparison.specs.Condition.{Condition}
use Rattle.comparison.specs.Formulas.{digit_size, joined_size, digit_products, joined_products, digit_squares, joined_squares, ended_size, condition_size, condition_products, condition_squares}
use Rattle.comparison.specs.Relation.{Relation, is_order}
use Rattle.query.specs.Card.{most_conditions, over_conditions}
use Rattle.query.specs.Form.{Question, YesOrNo, Score, question_of}
use Rattle.query.specs.Formulas.{end_size, end_products}
use Rattle.card.specs.Parts.{Summary}
use Rattle.forecast.specs.declared.Counts.{Counts}
use Rattle.forecast.specs.declared.Totals.{Totals}

-- ---- one condition

-- a digit, by the sort of its condition; of an order digit without E, which has neither product nor square
abbrev pub digit_counts : Bool → ℕ → Counts
digit_counts order p = record { gates = digit_size order p; products = digit_products order p; squares = digit_squares order p }

-- n digits and their joining
abbrev pub joined_counts : Bool → ℕ → Counts → Counts
joined_counts order n digit = record {
  gates = joined_size order n digit.gates;
  products = joined_products order n digit.products;
  squares = joined_squares n digit.squares;
}

-- with the FLIP of its relation, if that ends with one
abbrev pub ended_counts : Relation → Counts → Counts
ended_counts r joined =
    record { gates = ended_size r joined.gates; products = joined.products; squares = joined.squares }

-- a digit of the sort that the relation asks for
abbrev pub of_sort : Bool → Counts → Counts → Counts
of_sort true order equality = order
of_sort false order equality = equality

abbrev pub condition_counts : Relation → ℕ → Counts → Counts → Counts
condition_counts r n order equality = ended_counts r (joined_counts (is_order r) n (of_sort (is_order r) order equality))

-- above what a digit, a condition without its FLIP and a condition can have of anything, and low enough that no sum overflows
abbrev pub most_in_digit : ℕ
most_in_digit = 450

abbrev pub most_before_flip : ℕ
most_before_flip = 7260

abbrev pub most_in_condition : ℕ
most_in_condition = 7261

-- each count is at most this
abbrev pub Within : ℕ → Counts → Type 0
Within most c = (c.gates ≤ most) × (c.products ≤ most) × (c.squares ≤ most)

-- ---- all conditions

abbrev pub totals_of : ℕ → List Condition → Totals
totals_of p cs = record {
  gates = over_conditions (condition_size p) cs;
  products = over_conditions (condition_products p) cs;
  squares = over_conditions (condition_squares p) cs;
  breadth = over_conditions (λ (c : Condition). 2 ^ clog c.digits) cs;
  longest = largest (map (λ (c : Condition). c.digits) cs);
}

-- what k conditions can have at most
abbrev pub TotalsWithin : ℕ → Totals → Type 0
TotalsWithin k t =
    (t.gates ≤ most_in_condition * k)
    × (t.products ≤ most_in_condition * k)
    × (t.squares ≤ most_in_condition * k)
    × (t.breadth ≤ 32 * k)
    × (t.longest ≤ most_digits)

-- ---- the report

-- what an accepted card says is in its ranges
abbrev pub InRanges : Summary → Type 0
InRanges said = (3 ≤ said.prime) × (said.prime ≤ 251) × (said.weight ≤ most_weight) × (1 ≤ said.count) × (said.count ≤ most_conditions)

-- "ceil(log2(the sum over the conditions of 2^ceil(log2 n)))"; of a score card "the largest ceil(log2 n)", that of the largest n
abbrev pub levels_of : Question → Totals → ℕ
levels_of YesOrNo t = clog t.breadth
levels_of Score t = clog t.longest

-- the conditions' counts with those of the gates after them, the cost of the two counts, and the depth
abbrev pub report_from : Summary → Totals → Report
report_from said t = record {
  gates = t.gates + end_size (question_of said.form) said.count;
  products = t.products + end_products (question_of said.form) said.count;
  squares = t.squares;
  cost = cost_of said.weight (t.products + end_products (question_of said.form) said.count) t.squares;
  depth = clog (said.prime - 1) + levels_of (question_of said.form) t;
}
