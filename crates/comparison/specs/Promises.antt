-- What is proved of one condition, for any n from 1 on, written after any gates; where truth is claimed, for every odd prime p:
-- by any lawful tests of its order digits, and by document 01's.
-- Proved in `proofs/Condition.antt` and `proofs/Deeper.antt`.
use Rattle.std.specs.Prelude.{◌≡◌, true, List, ◌++◌, ℕ, suc, ◌+◌, ◌-◌, ◌%◌, ◌≤◌, length}
use Rattle.field.specs.Bit.{bit}
use Rattle.field.specs.Logarithm.{clog}
use Rattle.field.specs.Primes.{Prime}
use Rattle.digits.specs.Number.{base, all_below}
use Rattle.circuit.specs.Count.{is_square, is_product, count}
use Rattle.circuit.specs.Depth.{depths}
use Rattle.circuit.specs.Gate.{Gate}
use Rattle.circuit.specs.Meaning.{entry_at}
use Rattle.circuit.specs.Table.{Head, left_slots, right_slots, all_fit}
use Rattle.circuit.specs.TreePromises.{TwoLeast}
use Rattle.circuit.specs.Value.{values}
use Rattle.comparison.specs.Condition.{Condition, unweighed, HasSlots, holds}
use Rattle.comparison.specs.Digits.{equality_digits}
use Rattle.comparison.specs.Formulas.{test_gates, condition_size, condition_products, condition_squares, condition_cost, cost_summand}
use Rattle.comparison.specs.Lawful.{Lawful}
use Rattle.comparison.specs.Relation.{is_order}
use Rattle.comparison.specs.Tests.{Tests}
use Rattle.comparison.specs.Writing.{equality_factors, equality_joining, condition_by, condition_segment}

-- ---- by any tests

-- a condition's gates are the same whatever it weighs
abbrev pub WeighsNothing : Type 0
WeighsNothing = (t : Tests) (p : ℕ) (c : Condition) (k : ℕ) → condition_by t p (unweighed c) k ≡ condition_by t p c k

-- by deeper tests it is at least as deep
abbrev pub DeeperTests : Type 0
DeeperTests =
    (p k j : ℕ) (t u : Tests) (c : Condition) → 2 ≤ p → 1 ≤ c.digits → t.less.depth ≤ u.less.depth → t.equal.depth ≤ u.equal.depth
    → (condition_by t p c k).output.depth ≤ (condition_by u p c j).output.depth

-- ---- by any lawful tests

-- "A condition's output is the last gate that it writes."
abbrev pub OutputIsLast : Type 0
OutputIsLast =
    (p k : ℕ) (t : Tests) (c : Condition) → Lawful p t → 2 ≤ p → 1 ≤ c.digits
    → suc (condition_by t p c k).output.gate ≡ k + length (condition_by t p c k).gates

-- it writes a gate at least
abbrev pub ConditionWrites : Type 0
ConditionWrites = (p k : ℕ) (t : Tests) (c : Condition) → Lawful p t → 2 ≤ p → 1 ≤ c.digits → 1 ≤ length (condition_by t p c k).gates

-- its gates keep the rules of gates
abbrev pub ConditionFits : Type 0
ConditionFits =
    (head : Head) (k : ℕ) (t : Tests) (c : Condition)
    → Lawful head.prime t → 2 ≤ head.prime → HasSlots (left_slots head) (right_slots head) c
    → all_fit head k (condition_by t head.prime c k).gates ≡ true

-- the output is 1 where the condition holds, and 0 otherwise
abbrev pub ConditionHolds : Type 0
ConditionHolds =
    (p : ℕ) (t : Tests) (left right : List ℕ) (gates : List Gate) (c : Condition)
    → Lawful p t → Prime p → 3 ≤ p → p % 2 ≡ 1 → HasSlots (length left) (length right) c
    → all_below (base p) left ≡ true → all_below (base p) right ≡ true
    → let written = condition_by t p c (length gates) in
    entry_at (values p left right) (gates ++ written.gates) written.output.gate ≡ bit (holds (base p) left right c)

-- and is as deep as its node tells
abbrev pub ConditionTells : Type 0
ConditionTells =
    (p : ℕ) (t : Tests) (gates : List Gate) (c : Condition) → Lawful p t → 2 ≤ p → 1 ≤ c.digits
    → let written = condition_by t p c (length gates) in
    entry_at depths (gates ++ written.gates) written.output.gate ≡ written.output.depth

-- written by two tests it differs by their gates alone, wherever it is written
abbrev pub SizesDiffer : Type 0
SizesDiffer =
    (p k j : ℕ) (t u : Tests) (c : Condition) → Lawful p t → Lawful p u → 2 ≤ p → 1 ≤ c.digits
    → length (condition_by t p c k).gates + test_gates u c ≡ length (condition_by u p c j).gates + test_gates t c

-- ---- by document 01's

-- that depth is ceil(log2(p-1)) + ceil(log2 n)
abbrev pub ConditionDepth : Type 0
ConditionDepth =
    (p k : ℕ) (c : Condition) → 2 ≤ p → 1 ≤ c.digits → (condition_segment p c k).output.depth ≡ clog (p - 1) + clog c.digits

-- the gates are as many as document 01 says
abbrev pub ConditionSized : Type 0
ConditionSized =
    (p k : ℕ) (c : Condition) → 3 ≤ p → p % 2 ≡ 1 → 1 ≤ c.digits → length (condition_segment p c k).gates ≡ condition_size p c

-- how many of them are products and squares
abbrev pub ConditionCounts : Type 0
ConditionCounts =
    (p k : ℕ) (c : Condition) → 3 ≤ p → p % 2 ≡ 1 → 1 ≤ c.digits
    → (count is_product (condition_segment p c k).gates ≡ condition_products p c)
    × (count is_square (condition_segment p c k).gates ≡ condition_squares p c)

-- an order condition costs exactly the summand of demand 3
abbrev pub OrderCost : Type 0
OrderCost =
    (p s : ℕ) (c : Condition) → 3 ≤ p → p % 2 ≡ 1 → 1 ≤ c.digits → is_order c.relation ≡ true
    → condition_cost p s c ≡ cost_summand p s c.digits

-- and every condition at most that
abbrev pub CostWithin : Type 0
CostWithin = (p s : ℕ) (c : Condition) → 3 ≤ p → p % 2 ≡ 1 → 1 ≤ c.digits → condition_cost p s c ≤ cost_summand p s c.digits

-- "Equality joining: product tree over the digits.", by the rule for product trees
abbrev pub EqualityTree : Type 0
EqualityTree =
    (p k : ℕ) (c : Condition) → 2 ≤ p → 1 ≤ c.digits
    → let next = k + length (equality_digits p c k c.digits 0) in
    let joined = equality_joining p c k next in
    TwoLeast next (equality_factors p k c.digits 0) joined.gates joined.output
