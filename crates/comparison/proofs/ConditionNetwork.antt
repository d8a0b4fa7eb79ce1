-- The gates of a condition, by document 01's tests, are a network over no inputs whose only output is the condition's:
-- its digits, then their joining or product tree, then its FLIP, each over the outputs of what comes before.
-- Assumes nothing.
use mathlib.Core.Path.{◌≡◌, refl, ap, subst}
use mathlib.Core.Bool.{Bool, true, false}
use mathlib.Core.List.{List, [], ◌∷◌}
use mathlib.Core.Logic.{inl, ⊎_elim}
use Prim.Native.Nat.{ℕ, zero, suc, ◌+◌, ◌%◌, ◌≤◌, ◌<◌}
use native.Mathlib.Omega.{arith}
use lib.ListN.{length}
use Rattle.circuit.specs.Factors.{InOrder}
use Rattle.circuit.specs.Segment.{Node}
use Rattle.circuit.proofs.Ends.{tree_network, flip_network}
use Rattle.circuit.proofs.Networks.{Network, outputs_before, wires, in_sequence}
use Rattle.comparison.specs.Condition.{Condition}
use Rattle.comparison.specs.Digits.{order_digit, order_start, order_digits, order_tests, equality_digit, equality_start, equality_digits}
use Rattle.comparison.specs.OrderDigit.{ascending}
use Rattle.comparison.specs.Relation.{is_order, is_flipped}
use Rattle.comparison.specs.Tests.{Tests, base_tests, equality_test}
use Rattle.comparison.specs.Writing.{less_of, equal_of, order_segment, zero_of, equality_factors, equality_segment, segment_of, ending, condition_by, condition_segment}
use Rattle.comparison.proofs.DifferenceNetwork.{digit_network}
use Rattle.comparison.proofs.DigitTests.{order_follows, order_first, equality_follows, equality_first}
use Rattle.comparison.proofs.DigitsNetwork.{gather, digits_network, digits_order}
use Rattle.comparison.proofs.EqualityNetwork.{equality_network}
use Rattle.comparison.proofs.JoiningNetwork.{outputs_of, joining_network}
use Rattle.comparison.proofs.Lawful.{base_lawful}
use Rattle.comparison.proofs.OrderNetwork.{order_network}

-- ---- order conditions

module _ (p : ℕ) (three : 3 ≤ p) (odd : p % 2 ≡ 1) (c : Condition) (k : ℕ) where
  abbrev t : Tests
  t = base_tests p

  abbrev start : ℕ → ℕ
  start = order_start t k

  -- L and E of each digit
  abbrev outputs : ℕ → List Node
  outputs = outputs_of (less_of t k) (equal_of t k)

  follows : (j : ℕ) → start j + length (order_digit t c j (start j)) ≡ start (suc j)
  follows = order_follows p t (base_lawful p three odd) c k

  order_digit_lem : (j : ℕ) → Network (start j) [] (order_digit t c j (start j)) (outputs j)
  order_digit_lem j = digit_network c j (start j) (order_tests t j (start j)) (outputs j) (order_network p three odd (start j) j)

  order_outputs : (j : ℕ) → InOrder (start j) (start (suc j)) (outputs j)
  unfolding InOrder
  order_outputs zero = (omega arith, omega arith)
  order_outputs (suc j) = (omega arith, (omega arith, omega arith))

  order_condition : 1 ≤ c.digits → Network k [] (order_segment t c k).gates ((order_segment t c k).output ∷ [])
  unfolding order_segment
  order_condition some =
      let n = c.digits in
      let next = k + length (order_digits t c k n 0) in
      in_sequence (digits_network (order_digit t c) start outputs follows order_digit_lem order_outputs n k (order_first t k)) refl
      (joining_network (less_of t k) (equal_of t k) n 0 next some
      (digits_order (order_digit t c) start outputs follows order_digit_lem order_outputs n k (order_first t k)))

-- ---- equality conditions

module _ (p : ℕ) (two : 2 ≤ p) (c : Condition) (k : ℕ) where
  abbrev from : ℕ → ℕ
  from = equality_start p k

  abbrev zeros : ℕ → List Node
  zeros j = zero_of p k j ∷ []

  equality_digit_lem : (j : ℕ) → Network (from j) [] (equality_digit p c j (from j)) (zeros j)
  equality_digit_lem j = digit_network c j (from j) ((equality_test p).gates (from j)) (zeros j) (equality_network p (from j) two)

  equality_outputs : (j : ℕ) → InOrder (from j) (from (suc j)) (zeros j)
  unfolding InOrder
  equality_outputs j = (omega arith, omega arith)

  factors_are : (n j : ℕ) → gather zeros (ascending n j) ≡ equality_factors p k n j
  unfolding equality_factors ascending
  factors_are zero j = refl
  factors_are (suc n) j = ap (λ (later : List Node). zero_of p k j ∷ later) (factors_are n (suc j))

  factors_some : (n j : ℕ) → 1 ≤ n → 1 ≤ length (equality_factors p k n j)
  unfolding equality_factors
  factors_some zero j some = absurd (omega arith)
  factors_some (suc n) j some = omega arith

  equality_condition : 1 ≤ c.digits → Network k [] (equality_segment p c k).gates ((equality_segment p c k).output ∷ [])
  unfolding equality_segment
  equality_condition some =
      let n = c.digits in
      let digits = equality_digits p c k n 0 in
      let factors = equality_factors p k n 0 in
      let follows : (j : ℕ) → from j + length (equality_digit p c j (from j)) ≡ from (suc j) = equality_follows p two c k in
      let written = digits_network (equality_digit p c) from zeros follows equality_digit_lem equality_outputs n k (equality_first p k) in
      let order = digits_order (equality_digit p c) from zeros follows equality_digit_lem equality_outputs n k (equality_first p k) in
      in_sequence (subst (λ (nodes : List Node). Network k [] digits nodes) (factors_are n 0) written) refl
      (tree_network (k + length digits) factors (factors_some n 0 some) (subst (InOrder 0 (k + length digits)) (factors_are n 0) order))

-- ---- both

-- the FLIP, where there is one, over the output of what comes before
flip_or_not : (b : Bool) (k : ℕ) (output : Node) → output.gate < k
    → Network k (output ∷ []) (ending b output k).gates ((ending b output k).output ∷ [])
flip_or_not true k output low = flip_network k output (ending true output k).output low refl
flip_or_not false k output low = wires k (output ∷ []) (λ x. ⊎_elim (λ e. omega arith) (λ none. absurd none))

pub condition_network : (p : ℕ) → 3 ≤ p → p % 2 ≡ 1 → (c : Condition) (k : ℕ) → 1 ≤ c.digits
    → Network k [] (condition_segment p c k).gates ((condition_segment p c k).output ∷ [])
unfolding condition_by
condition_network p three odd c k some =
    let order = is_order c.relation in
    let s = segment_of order (base_tests p) p c k in
    let body = before_flip order in
    in_sequence body refl
    (flip_or_not (is_flipped c.relation) (k + length s.gates) s.output (outputs_before body s.output.gate (inl refl)))
  where
    before_flip : (order : Bool) → let s = segment_of order (base_tests p) p c k in Network k [] s.gates (s.output ∷ [])
    before_flip true = order_condition p three odd c k some
    before_flip false = equality_condition p (omega arith) c k some
