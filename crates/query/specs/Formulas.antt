-- The formulas of a card: gates (document 01, "Whole card"), depth, products, squares and cost (demand 3; document 02, E1).
use Rattle.std.specs.Prelude.{ℕ, ◌+◌, ◌-◌, ◌*◌, ◌^◌, List, [], ◌∷◌, map, length}
use Rattle.answer.specs.Report.{Report}
use Rattle.field.specs.Logarithm.{clog}
use Rattle.circuit.specs.Sums.{largest}
use Rattle.comparison.specs.Condition.{Condition}
use Rattle.comparison.specs.Formulas.{condition_size, condition_products, condition_squares, condition_cost, cost_summand}
use Rattle.query.specs.Card.{Card, over_conditions}
use Rattle.query.specs.Form.{Question, YesOrNo, Score, question_of}

-- the gates after those of the c conditions: "plus c-1", the product tree's; of a score card a SCALE each, and an ADD each but the first
abbrev pub end_size : Question → ℕ → ℕ
end_size YesOrNo c = c - 1
end_size Score c = 2 * c - 1

-- and how many of them are products: all of the product tree's; "there is no product tree"
abbrev pub end_products : Question → ℕ → ℕ
end_products YesOrNo c = c - 1
end_products Score c = 0

-- "Gates: per order condition .., per equality condition ..", and those after them
abbrev pub gate_count : Card → ℕ
gate_count card =
    over_conditions (condition_size card.prime) card.conditions + end_size (question_of card.form) (length card.conditions)

-- the last gate of each condition, where the first of them is written from gate number k on
unfoldable pub last_gates : ℕ → ℕ → List Condition → List ℕ
last_gates p k [] = []
last_gates p k (c ∷ cs) = (k + condition_size p c - 1) ∷ last_gates p (k + condition_size p c) cs

-- "ceil(log2(the sum over the conditions of 2^ceil(log2 n)))"; of a score card "the largest ceil(log2 n)"
abbrev pub levels_above : Question → List Condition → ℕ
levels_above YesOrNo conditions = clog (over_conditions (λ (c : Condition). 2 ^ clog c.digits) conditions)
levels_above Score conditions = largest (map (λ (c : Condition). clog c.digits) conditions)

-- "ceil(log2(p-1)) + .."; "D plus .."
abbrev pub depth_formula : Card → ℕ
depth_formula card = clog (card.prime - 1) + levels_above (question_of card.form) card.conditions

-- products: those of the conditions, and those after them, of which none is a square
abbrev pub product_count : Card → ℕ
product_count card =
    over_conditions (condition_products card.prime) card.conditions + end_products (question_of card.form) (length card.conditions)

abbrev pub square_count : Card → ℕ
square_count card = over_conditions (condition_squares card.prime) card.conditions

-- "100(c-1)", or nothing of a score card, and the cost of each condition
abbrev pub cost_sum : Card → ℕ
cost_sum card =
    100 * end_products (question_of card.form) (length card.conditions)
    + over_conditions (condition_cost card.prime card.weight) card.conditions

-- "100(c-1) plus, for each condition, n(50(p-3) + s(floor((p-1)/4)+1)) + 100(2n-2-floor(log2 n))"; "the cost claim covers both"
abbrev pub cost_bound : Card → ℕ
cost_bound card =
    100 * (length card.conditions - 1)
    + over_conditions (λ (c : Condition). cost_summand card.prime card.weight c.digits) card.conditions

-- the five numbers from the card alone
abbrev pub numbers_of : Card → Report
numbers_of card = record {
  gates = gate_count card;
  products = product_count card;
  squares = square_count card;
  cost = cost_sum card;
  depth = depth_formula card;
}
