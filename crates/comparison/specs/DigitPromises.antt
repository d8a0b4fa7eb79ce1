-- What is proved of the digits of a condition and of one digit's tests, written after any gates; where truth is claimed, for every odd prime p.
-- Proved in `proofs/DigitPromises.antt`, `proofs/Terms.antt` and `proofs/EqualityDigit.antt`.
use Rattle.std.specs.Prelude.{◌≡◌, List, [], ◌∷◌, ◌++◌, map, ℕ, suc, ◌+◌, ◌-◌, ◌%◌, ◌^◌, ◌≤◌, ◌<◌, ltb, eqb, length, get_or}
use Rattle.field.specs.Bit.{bit}
use Rattle.field.specs.Logarithm.{flog}
use Rattle.field.specs.Polynomials.{order_exponents, order_constant, order_constants}
use Rattle.field.specs.Primes.{Prime}
use Rattle.digits.specs.Number.{base}
use Rattle.circuit.specs.Constant.{plus, minus, code}
use Rattle.circuit.specs.Count.{is_square, is_product, count}
use Rattle.circuit.specs.Depth.{depths}
use Rattle.circuit.specs.Every.{Every}
use Rattle.circuit.specs.Gate.{Gate, Scale}
use Rattle.circuit.specs.Meaning.{entry_at, output}
use Rattle.circuit.specs.OldConstants.{old_gate}
use Rattle.circuit.specs.Sums.{sum_from}
use Rattle.circuit.specs.Value.{values}
use Rattle.comparison.specs.Bits.{ones}
use Rattle.comparison.specs.Condition.{Condition}
use Rattle.comparison.specs.Difference.{z_gate}
use Rattle.comparison.specs.Digits.{order_digit, order_start, equality_digit, equality_start}
use Rattle.comparison.specs.EqualityDigit.{zero_gates}
use Rattle.comparison.specs.Lawful.{Lawful}
use Rattle.comparison.specs.OrderDigit.{power_gate, terms}
use Rattle.comparison.specs.Relation.{is_backward, minuend, subtrahend}
use Rattle.comparison.specs.Tests.{Tests, less_node, equal_node, digit_depth, base_tests}

-- the digits number j of a condition's two sides, in the order in which they are subtracted
abbrev pub first_digit : List ℕ → List ℕ → Condition → ℕ → ℕ
first_digit left right c j = minuend (is_backward c.relation) (get_or left (c.left + j) 0) (get_or right (c.right + j) 0)

abbrev pub second_digit : List ℕ → List ℕ → Condition → ℕ → ℕ
second_digit left right c j = subtrahend (is_backward c.relation) (get_or left (c.left + j) 0) (get_or right (c.right + j) 0)

-- both are below B
abbrev pub InBase : ℕ → List ℕ → List ℕ → Condition → ℕ → Type 0
InBase p left right c j = (first_digit left right c j < base p) × (second_digit left right c j < base p)

-- "Digits go low to high.": the lowest from the condition's first gate on, and each other where the one before it ends;
-- of an order condition by any lawful tests, and of an equality condition
abbrev pub DigitsFollow : Type 0
DigitsFollow =
    (p k j : ℕ) (t : Tests) (c : Condition)
    → (Lawful p t
    → (order_start t k 0 ≡ k) × (order_start t k j + length (order_digit t c j (order_start t k j)) ≡ order_start t k (suc j)))
    × (2 ≤ p
    → (equality_start p k 0 ≡ k) × (equality_start p k j + length (equality_digit p c j (equality_start p k j)) ≡ equality_start p k (suc j)))

-- ---- the order digit

-- "a SCALE of z^i": for every i of a term, the gate that it scales is the i-th power of z
abbrev pub TermPowers : Type 0
TermPowers =
    (p : ℕ) (left right : List ℕ) (gates : List Gate) (c : Condition) (j : ℕ) → 3 ≤ p → p % 2 ≡ 1
    → let k = length gates in
    let value = entry_at (values p left right) (gates ++ order_digit (base_tests p) c j k) in
    Every (λ i. value (power_gate p (z_gate k) i) % p ≡ (value (z_gate k) ^ i) % p) (order_exponents p)

-- a term with the constant that it had: "a SCALE of z^i by c_i" (document 01)
abbrev pub old_term : ℕ → ℕ → ℕ → Gate
old_term p z i = Scale (power_gate p z i) (plus (order_constant p i))

-- a SCALE's b is "equal to the old constant modulo p" (document 02, E3): with the constants that they had, the terms over z from gate number k on
-- are document 01's
abbrev pub OldTerms : Type 0
OldTerms = (p z k : ℕ) (is : List ℕ) → 2 ≤ p → map (old_gate p) (terms p z k is) ≡ sum_from k (map (old_term p z) is)

-- "p=5 order constants 4, 3, 3; p=7: 3, 1, 6, 4." (document 01), as they are written
abbrev pub WrittenConstants : Type 0
WrittenConstants =
    (map (code 5) (order_constants 5) ≡ minus 1 ∷ minus 2 ∷ minus 2 ∷ [])
    × (map (code 7) (order_constants 7) ≡ plus 3 ∷ plus 1 ∷ minus 1 ∷ minus 3 ∷ [])

-- by any lawful tests: L is 1 where the first digit is smaller, and 0 otherwise;
-- E, of every digit but the lowest, is 1 where they are equal, and 0 otherwise
abbrev pub OrderDigitHolds : Type 0
OrderDigitHolds =
    (p : ℕ) (t : Tests) (left right : List ℕ) (gates : List Gate) (c : Condition) (j : ℕ)
    → Lawful p t → Prime p → 3 ≤ p → p % 2 ≡ 1 → InBase p left right c j
    → let k = length gates in
    let value = entry_at (values p left right) (gates ++ order_digit t c j k) in
    let x = first_digit left right c j in
    let y = second_digit left right c j in
    (value (less_node t k).gate ≡ bit (ltb x y)) × (0 < j → value (equal_node t k).gate ≡ bit (eqb x y))

-- and both are as deep as the tests tell, document 01's D
abbrev pub OrderDigitDepth : Type 0
OrderDigitDepth =
    (p : ℕ) (t : Tests) (gates : List Gate) (c : Condition) (j : ℕ) → Lawful p t
    → let k = length gates in
    let depth = entry_at depths (gates ++ order_digit t c j k) in
    (depth (less_node t k).gate ≡ t.less.depth) × (0 < j → depth (equal_node t k).gate ≡ t.equal.depth)

-- ---- the equality digit

-- its last gate is 1 where the digits are equal, and 0 otherwise
abbrev pub EqualityDigitHolds : Type 0
EqualityDigitHolds =
    (p : ℕ) (left right : List ℕ) (gates : List Gate) (c : Condition) (j : ℕ) → Prime p → 3 ≤ p → p % 2 ≡ 1 → InBase p left right c j
    → output (values p left right) (gates ++ equality_digit p c j (length gates))
    ≡ bit (eqb (first_digit left right c j) (second_digit left right c j))

-- and D deep
abbrev pub EqualityDigitDepth : Type 0
EqualityDigitDepth =
    (p : ℕ) (gates : List Gate) (c : Condition) (j : ℕ) → 2 ≤ p
    → output depths (gates ++ equality_digit p c j (length gates)) ≡ digit_depth p

-- "That is flog(t) squares and ones(t)-1 products.", where t = p-1
abbrev pub EqualityDigitCounts : Type 0
EqualityDigitCounts =
    (p k : ℕ) → 2 ≤ p → (count is_square (zero_gates p k) ≡ flog (p - 1)) × (count is_product (zero_gates p k) ≡ ones (p - 1) - 1)
