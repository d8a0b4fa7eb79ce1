-- One condition whole (document 01, "Writing one condition"): its digits, then their joining, then FLIP for relations 2, 4 and 6.
use Rattle.std.specs.Prelude.{ℕ, zero, suc, Bool, true, false, List, [], ◌∷◌}
use Rattle.circuit.specs.Gate.{Flip}
use Rattle.circuit.specs.ProductTree.{product_tree}
use Rattle.circuit.specs.Segment.{Node, Segment, followed_by}
use Rattle.comparison.specs.Condition.{Condition}
use Rattle.comparison.specs.Digits.{order_start, order_digits, equality_start, equality_digits}
use Rattle.comparison.specs.Joining.{whole_run}
use Rattle.comparison.specs.Relation.{is_order, is_flipped}
use Rattle.comparison.specs.Tests.{no_test, test_node, Tests, less_node, equal_node, base_tests, equality_test}

-- ---- order conditions, of which each digit has the tests t

-- L and E of digit number j, where the digits are written from gate number k on
abbrev pub less_of : Tests → ℕ → ℕ → Node
less_of t k j = less_node t (order_start t k j)

abbrev pub equal_of : Tests → ℕ → ℕ → Node
equal_of t k j = equal_node t (order_start t k j)

-- L of the whole, from gate number next on
abbrev pub order_joining : Tests → Condition → ℕ → ℕ → Segment
order_joining t c k next = whole_run (less_of t k) (equal_of t k) c.digits next

-- its digits, then their joining, from gate number k on
unfoldable pub order_segment : Tests → Condition → ℕ → Segment
order_segment t c k = followed_by k (order_digits t c k c.digits 0) (order_joining t c k)

-- ---- equality conditions

-- the test of digit number j, where the digits are written from gate number k on
abbrev pub zero_of : ℕ → ℕ → ℕ → Node
zero_of p k j = test_node no_test (equality_test p) (equality_start p k j)

-- those of n digits, from number j on
unfoldable pub equality_factors : ℕ → ℕ → ℕ → ℕ → List Node
equality_factors p k zero j = []
equality_factors p k (suc n) j = zero_of p k j ∷ equality_factors p k n (suc j)

-- "Equality joining: product tree over the digits."
abbrev pub equality_joining : ℕ → Condition → ℕ → ℕ → Segment
equality_joining p c k next = product_tree next (equality_factors p k c.digits 0)

-- its digits, then their product tree
unfoldable pub equality_segment : ℕ → Condition → ℕ → Segment
equality_segment p c k = followed_by k (equality_digits p c k c.digits 0) (equality_joining p c k)

-- ---- both

-- a condition before its FLIP, by whether it compares by order
abbrev pub segment_of : Bool → Tests → ℕ → Condition → ℕ → Segment
segment_of true t p c k = order_segment t c k
segment_of false t p c k = equality_segment p c k

-- "Relations 2 and 4 end with FLIP."; "Relation 6 ends with FLIP.": of an output, from gate number k on, or nothing
abbrev pub ending : Bool → Node → ℕ → Segment
ending false output k = record { gates = []; output = output }
ending true output k = record { gates = Flip output.gate ∷ []; output = record { gate = k; depth = output.depth } }

-- a condition, from gate number k on, whose order digits have the tests t.
-- By lawful ones the depth that its output node tells is that of its gate (`ConditionTells`)
unfoldable pub condition_by : Tests → ℕ → Condition → ℕ → Segment
condition_by t p c k =
    let s = segment_of (is_order c.relation) t p c k in
    followed_by k s.gates (ending (is_flipped c.relation) s.output)

-- by document 01's tests
abbrev pub condition_segment : ℕ → Condition → ℕ → Segment
condition_segment p c k = condition_by (base_tests p) p c k
