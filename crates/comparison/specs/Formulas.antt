-- The formulas of one condition: its gates (document 01, "Whole card"), its products and squares, and its summand of the cost (demand 3).
use Rattle.std.specs.Prelude.{ℕ, ◌+◌, ◌-◌, ◌*◌, ◌/◌, Bool, true, false}
use Rattle.field.specs.Bit.{bit}
use Rattle.field.specs.Logarithm.{flog}
use Rattle.answer.specs.Report.{cost_of}
use Rattle.comparison.specs.Bits.{ones}
use Rattle.comparison.specs.Condition.{Condition}
use Rattle.comparison.specs.Relation.{Relation, is_order, is_flipped}
use Rattle.comparison.specs.Tests.{Tests}

-- ---- gates: "per order condition n(p+4+(p-3)/2+floor((p-1)/4)) + 4(n-1) - flog(n)";
-- "per equality condition n(3+flog(t)+ones(t)) + n-1", where t = p-1

-- a digit's, by the sort of the condition; an order digit's without E
abbrev pub digit_size : Bool → ℕ → ℕ
digit_size true p = p + 4 + (p - 3) / 2 + (p - 1) / 4
digit_size false p = 3 + flog (p - 1) + ones (p - 1)

-- n digits' of that size, E of every order digit but the lowest, and their joining's
abbrev pub joined_size : Bool → ℕ → ℕ → ℕ
joined_size true n digit = n * digit + 4 * (n - 1) - flog n
joined_size false n digit = n * digit + (n - 1)

abbrev pub gates_before_flip : Bool → ℕ → ℕ → ℕ
gates_before_flip order p n = joined_size order n (digit_size order p)

-- "plus 1 for relations 2 and 4"; "plus 1 for relation 6"
abbrev pub ended_size : Relation → ℕ → ℕ
ended_size r joined = joined + bit (is_flipped r)

abbrev pub condition_size : ℕ → Condition → ℕ
condition_size p c = ended_size c.relation (gates_before_flip (is_order c.relation) p c.digits)

-- ---- gates by any tests of the order digits: those of L in each order digit, and those of E in each but the lowest

-- the order digits of a condition
abbrev pub order_digits_in : Condition → ℕ
order_digits_in c = elim (is_order c.relation) [ true ↦ c.digits | false ↦ 0 ]

abbrev pub test_gates : Tests → Condition → ℕ
test_gates t c = order_digits_in c * t.less.count + (order_digits_in c - 1) * t.equal.count

-- ---- products

-- (p-3)/2 a digit, or "ones(t)-1 products"
abbrev pub digit_products : Bool → ℕ → ℕ
digit_products true p = (p - 3) / 2
digit_products false p = ones (p - 1) - 1

-- and two for each split in joining, one where the run holds digit 0; or a product tree
abbrev pub joined_products : Bool → ℕ → ℕ → ℕ
joined_products true n digit = n * digit + (2 * n - 2 - flog n)
joined_products false n digit = n * digit + (n - 1)

abbrev pub products_of : Bool → ℕ → ℕ → ℕ
products_of order p n = joined_products order n (digit_products order p)

-- ---- squares

-- floor((p-1)/4) + 1 a digit, or "flog(t) squares"
abbrev pub digit_squares : Bool → ℕ → ℕ
digit_squares true p = (p - 1) / 4 + 1
digit_squares false p = flog (p - 1)

-- joining has none
abbrev pub joined_squares : ℕ → ℕ → ℕ
joined_squares n digit = n * digit

abbrev pub squares_of : Bool → ℕ → ℕ → ℕ
squares_of order p n = joined_squares n (digit_squares order p)

-- ---- a condition's

abbrev pub condition_products : ℕ → Condition → ℕ
condition_products p c = products_of (is_order c.relation) p c.digits

abbrev pub condition_squares : ℕ → Condition → ℕ
condition_squares p c = squares_of (is_order c.relation) p c.digits

abbrev pub condition_cost : ℕ → ℕ → Condition → ℕ
condition_cost p s c = cost_of s (condition_products p c) (condition_squares p c)

-- the summand of demand 3: "n(50(p-3) + s(floor((p-1)/4)+1)) + 100(2n-2-floor(log2 n))"
abbrev pub cost_summand : ℕ → ℕ → ℕ → ℕ
cost_summand p s n = n * (50 * (p - 3) + s * ((p - 1) / 4 + 1)) + 100 * (2 * n - 2 - flog n)
