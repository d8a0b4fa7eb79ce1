-- One digit: where the next one begins, what it names, and what its tests tell of the two digits in its slots, and how deep they are.
-- Over any entries that solve the digit's gates: z is the difference, and the polynomials of a difference are the tests
-- (`less_test`, `equal_test`).
-- Assumes nothing.
use mathlib.Core.Path.{◌≡◌, refl, ap, ap₂, ◌∙◌}
use mathlib.Core.Bool.{Bool, true, false}
use mathlib.Core.List.{List, [], ◌∷◌, ◌++◌}
use Prim.Native.Nat.{ℕ, zero, suc, ◌+◌, ◌%◌, ◌^◌, ◌≤◌, ◌<◌}
use native.Mathlib.Omega.{arith}
use lib.Dec.{ltb, eqb}
use lib.ListN.{length, length-append}
use Rattle.field.specs.Bit.{bit}
use Rattle.field.specs.Modular.{sub_mod}
use Rattle.field.specs.Polynomials.{zero_test, order_exponents, order_polynomial}
use Rattle.field.specs.Primes.{Prime}
use Rattle.digits.proofs.Comparing.{less_test, equal_test}
use Rattle.circuit.specs.Count.{count, is_product, is_square}
use Rattle.circuit.specs.Depth.{depths}
use Rattle.circuit.specs.Every.{Every}
use Rattle.circuit.specs.Gate.{Gate, Left, Right}
use Rattle.circuit.specs.Meaning.{meaning, Solves}
use Rattle.circuit.specs.Table.{Head, left_slots, right_slots, all_fit}
use Rattle.circuit.specs.Value.{values}
use Rattle.circuit.proofs.Count.{count_append}
use Rattle.circuit.proofs.Fitting.{AllFitted, all_fit_lem, fit_append}
use Rattle.circuit.proofs.Meaning.{solves_append}
use Rattle.comparison.specs.Condition.{Condition}
use Rattle.comparison.specs.Difference.{minus, z_gate}
use Rattle.comparison.specs.DigitPromises.{first_digit, second_digit, InBase}
use Rattle.comparison.specs.Digits.{digit_difference, unless_lowest, order_tests, order_digit, order_start, equality_digit, equality_start}
use Rattle.comparison.specs.Formulas.{digit_products, digit_squares}
use Rattle.comparison.specs.Lawful.{Lawful}
use Rattle.comparison.specs.OrderDigit.{power_gate, less_gates, equal_gates}
use Rattle.comparison.specs.Relation.{is_backward, minuend, subtrahend}
use Rattle.comparison.specs.Tests.{no_test, test_node, Tests, less_node, equal_node, digit_depth, base_tests, equality_test}
use Rattle.comparison.proofs.EqualityDigit.{equality_digit_counts}
use Rattle.comparison.proofs.Lawful.{equality_lawful}
use Rattle.comparison.proofs.OrderDigit.{less_count_lem, powers_are}

-- ---- where the next digit begins

module _ (p : ℕ) (t : Tests) (law : Lawful p t) (c : Condition) (k : ℕ) where
  pub order_follows : (j : ℕ) → order_start t k j + length (order_digit t c j (order_start t k j)) ≡ order_start t k (suc j)
  order_follows zero = omega (arith, length-append (t.less.gates (order_start t k 0)) [], law.less.size (order_start t k 0))
  order_follows (suc j) =
      let start = order_start t k (suc j) in
      omega (arith, length-append (t.less.gates start) (t.equal.gates start), law.less.size start, law.equal.size start)

pub order_first : (t : Tests) (k : ℕ) → order_start t k 0 ≡ k
order_first t k = omega arith

pub equality_follows : (p : ℕ) → 2 ≤ p → (c : Condition) (k j : ℕ)
    → equality_start p k j + length (equality_digit p c j (equality_start p k j)) ≡ equality_start p k (suc j)
equality_follows p two c k j = omega (arith, (equality_lawful p two).size (equality_start p k j))

pub equality_first : (p k : ℕ) → equality_start p k 0 ≡ k
equality_first p k = omega arith

-- ---- what they name

difference_fitted : (head : Head) (b : Bool) (left right k : ℕ) → left < left_slots head → right < right_slots head
    → AllFitted head k (Left left ∷ Right right ∷ minus b k ∷ [])
difference_fitted head true left right k l r = omega arith
difference_fitted head false left right k l r = omega arith

module _ (head : Head) (p : ℕ) (prime : head.prime ≡ p) (c : Condition) (j k : ℕ)
    (l : c.left + j < left_slots head) (r : c.right + j < right_slots head) where
  -- the difference, and gates that fit after it
  after_difference : (later : List Gate) → all_fit head (suc (z_gate k)) later ≡ true → all_fit head k (digit_difference c j k ++ later) ≡ true
  after_difference later h =
      let next : k + 3 ≡ suc (z_gate k) = omega arith in
      fit_append head k (digit_difference c j k) later
      (all_fit_lem head k _ (difference_fitted head (is_backward c.relation) (c.left + j) (c.right + j) k l r)) (rw next h)

  pub order_digit_fits : (t : Tests) → Lawful p t → all_fit head k (order_digit t c j k) ≡ true
  order_digit_fits t law =
      let first : suc (z_gate k + 0) ≡ suc (z_gate k) = omega arith in
      let next : suc (z_gate k) + length (t.less.gates k) ≡ suc (z_gate k + t.less.count) = omega (arith, law.less.size k) in
      after_difference (order_tests t j k) (fit_append head (suc (z_gate k)) (t.less.gates k) _ (rw first at (law.less.fits head k prime)) (rw next (go j)))
    where
      go : (j : ℕ) → all_fit head (suc (z_gate k + t.less.count)) (unless_lowest j (t.equal.gates k)) ≡ true
      go zero = all_fit_lem head _ [] tt
      go (suc j) = law.equal.fits head k prime

  pub equality_digit_fits : 2 ≤ p → all_fit head k (equality_digit p c j k) ≡ true
  equality_digit_fits two =
      let first : suc (z_gate k + 0) ≡ suc (z_gate k) = omega arith in
      after_difference ((equality_test p).gates k) (rw first at ((equality_lawful p two).fits head k prime))

-- ---- values

module _ (p : ℕ) (left right : List ℕ) (E : ℕ → ℕ) (c : Condition) (j k : ℕ) where
  abbrev x : ℕ
  x = first_digit left right c j

  abbrev y : ℕ
  y = second_digit left right c j

  minus_value : (b : Bool)
      → meaning (values p left right) E (minus b k) ≡ sub_mod p (minuend b (E k) (E (suc k))) (subtrahend b (E k) (E (suc k)))
  minus_value false = refl
  minus_value true = refl

  z_value : (later : List Gate) → Solves (values p left right) E k (digit_difference c j k ++ later) → E (z_gate k) ≡ sub_mod p x y
  z_value later h =
      let b = is_backward c.relation in
      h.1.1.0 ∙ minus_value b ∙ ap₂ (λ (u v : ℕ). sub_mod p (minuend b u v) (subtrahend b u v)) h.0 h.1.0

  module _ (prime : Prime p) (three : 3 ≤ p) (odd : p % 2 ≡ 1) (low : InBase p left right c j) where
    zero_bit : (later : List Gate) → Solves (values p left right) E k (digit_difference c j k ++ later)
        → zero_test p (E (z_gate k)) ≡ bit (eqb x y)
    zero_bit later h = ap (zero_test p) (z_value later h) ∙ equal_test p _ _ prime (omega (arith, low.0)) (omega (arith, low.1))

    pub less_is : (t : Tests) → Lawful p t → Solves (values p left right) E k (order_digit t c j k) → E (less_node t k).gate ≡ bit (ltb x y)
    less_is t law h =
        let s = solves_append (values p left right) E (t.less.gates k) _ (suc (z_gate k)) h.1.1.1 in
        law.less.value left right E k s.0
        ∙ ap (λ (z : ℕ). order_polynomial p z % p) (z_value (order_tests t j k) h) ∙ less_test p _ _ prime odd low.0 low.1

    pub zero_is : Solves (values p left right) E k (equality_digit p c j k) → E (test_node no_test (equality_test p) k).gate ≡ bit (eqb x y)
    zero_is h = (equality_lawful p (omega arith)).value left right E k h.1.1.1 ∙ zero_bit ((equality_test p).gates k) h

-- every digit but the lowest has E
pub equal_is : (p : ℕ) (left right : List ℕ) (E : ℕ → ℕ) (c : Condition) (j k : ℕ) → Prime p → 3 ≤ p → p % 2 ≡ 1 → InBase p left right c j
    → 0 < j → (t : Tests) → Lawful p t → Solves (values p left right) E k (order_digit t c j k)
    → E (equal_node t k).gate ≡ bit (eqb (first_digit left right c j) (second_digit left right c j))
equal_is p left right E c zero k prime three odd low some t law h = absurd (omega arith)
equal_is p left right E c (suc j) k prime three odd low some t law h =
    law.equal.value left right E k h.1.1.1 ∙ zero_bit p left right E c (suc j) k prime three odd low (order_tests t (suc j) k) h

-- the powers that the terms of document 01's order digit name
pub powers_of : (p : ℕ) → 3 ≤ p → p % 2 ≡ 1 → (left right : List ℕ) (E : ℕ → ℕ) (c : Condition) (j k : ℕ)
    → Solves (values p left right) E k (order_digit (base_tests p) c j k)
    → Every (λ i. E (power_gate p (z_gate k) i) % p ≡ (E (z_gate k) ^ i) % p) (order_exponents p)
powers_of p three odd left right E c j k h =
    powers_are p three odd left right E k (solves_append (values p left right) E (less_gates p k) _ (suc (z_gate k)) h.1.1.1).0

-- ---- depths

module _ (p : ℕ) (E : ℕ → ℕ) (c : Condition) where
  minus_depth : (b : Bool) (k : ℕ) → E k ≡ 0 → E (suc k) ≡ 0 → meaning depths E (minus b k) ≡ 0
  minus_depth false k l r = omega (arith, l, r)
  minus_depth true k l r = omega (arith, l, r)

  z_depth : (j k : ℕ) (later : List Gate) → Solves depths E k (digit_difference c j k ++ later) → E (z_gate k) ≡ 0
  z_depth j k later h = h.1.1.0 ∙ minus_depth (is_backward c.relation) k h.0 h.1.0

  pub less_deep : (t : Tests) → Lawful p t → (j k : ℕ) → Solves depths E k (order_digit t c j k) → E (less_node t k).gate ≡ t.less.depth
  less_deep t law j k h =
      law.less.tells E k (solves_append depths E (t.less.gates k) _ (suc (z_gate k)) h.1.1.1).0 (z_depth j k (order_tests t j k) h)

  pub equal_deep : (t : Tests) → Lawful p t → (j k : ℕ) → 0 < j → Solves depths E k (order_digit t c j k)
      → E (equal_node t k).gate ≡ t.equal.depth
  equal_deep t law zero k some h = absurd (omega arith)
  equal_deep t law (suc j) k some h = law.equal.tells E k h.1.1.1 (z_depth (suc j) k (order_tests t (suc j) k) h)

  pub zero_deep : 2 ≤ p → (j k : ℕ) → Solves depths E k (equality_digit p c j k) → E (test_node no_test (equality_test p) k).gate ≡ digit_depth p
  zero_deep two j k h = (equality_lawful p two).tells E k h.1.1.1 (z_depth j k ((equality_test p).gates k) h)

-- ---- how many products and squares document 01's have

-- the difference has none
difference_count : (c : Condition) (j k : ℕ) (later : List Gate)
    → (count is_product (digit_difference c j k ++ later) ≡ count is_product later)
    × (count is_square (digit_difference c j k ++ later) ≡ count is_square later)
unfolding count
difference_count c j k later = let none = go (is_backward c.relation) in (omega (arith, none.0), omega (arith, none.1))
  where
    go : (b : Bool) → (bit (is_product (minus b k)) ≡ 0) × (bit (is_square (minus b k)) ≡ 0)
    go true = (refl, refl)
    go false = (refl, refl)

module _ (p : ℕ) (c : Condition) (j k : ℕ) where
  -- nor has E
  equal_count : (j : ℕ) → (count is_product (unless_lowest j (equal_gates p k)) ≡ 0) × (count is_square (unless_lowest j (equal_gates p k)) ≡ 0)
  unfolding count
  equal_count zero = (refl, refl)
  equal_count (suc j) = (refl, refl)

  pub order_digit_count : 3 ≤ p → p % 2 ≡ 1
      → (count is_product (order_digit (base_tests p) c j k) ≡ digit_products true p)
      × (count is_square (order_digit (base_tests p) c j k) ≡ digit_squares true p)
  order_digit_count three odd =
      let e = unless_lowest j (equal_gates p k) in
      let z = difference_count c j k (less_gates p k ++ e) in
      let less = less_count_lem p three odd k in
      let equal = equal_count j in (
        omega (arith, z.0, count_append is_product (less_gates p k) e, less.0, equal.0),
        omega (arith, z.1, count_append is_square (less_gates p k) e, less.1, equal.1),
      )

  pub equality_digit_count : 2 ≤ p
      → (count is_product (equality_digit p c j k) ≡ digit_products false p) × (count is_square (equality_digit p c j k) ≡ digit_squares false p)
  equality_digit_count two =
      let z = difference_count c j k ((equality_test p).gates k) in
      let counts = equality_digit_counts p k two in (z.0 ∙ counts.1, z.1 ∙ counts.0)
