-- "Success answers G, products, squares, cost, depth" (document 01, "Operations and what they turn away").
use Rattle.std.specs.Prelude.{ℕ, ◌+◌, ◌*◌, Result}
use Rattle.answer.specs.Outcome.{Answer}
use Rattle.answer.specs.Settled.{answer_of}
use Rattle.answer.specs.declared.Report as declared
use Rattle.answer.specs.declared.Refusal.{Refusal}

pub record Report : Type 0 where
  pub gates : ℕ
  pub products : ℕ
  pub squares : ℕ
  pub cost : ℕ
  pub depth : ℕ

-- "Cost is 100 times the products plus s times the squares" (document 01, "Gate table"): of a weight, products and squares
abbrev pub cost_of : ℕ → ℕ → ℕ → ℕ
cost_of s products squares = 100 * products + s * squares

-- the five values of a report in the code
abbrev pub report_of : declared.Report → Report
report_of told = record {
  gates = told.gates;
  products = told.products;
  squares = told.squares;
  cost = told.cost.0;
  depth = told.depth.0;
}

-- the refusal's number, or the five values
abbrev pub report_answer : Result declared.Report Refusal → Answer Report
report_answer = answer_of report_of
