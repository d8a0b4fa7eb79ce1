-- The digits that a step size has a part in.
use Rattle.std.specs.Prelude.{List, ℕ, ◌-◌}
use Rattle.comparison.specs.Condition.{Condition}
use Rattle.comparison.specs.Formulas.{order_digits_in}
use Rattle.query.specs.Card.{over_conditions}

-- the order digits of conditions, and those of them that are not the lowest of their condition
abbrev pub order_digits : List Condition → ℕ
order_digits cs = over_conditions order_digits_in cs

abbrev pub higher_digits : List Condition → ℕ
higher_digits cs = over_conditions (λ (c : Condition). order_digits_in c - 1) cs
