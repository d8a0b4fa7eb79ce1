-- An order condition before its FLIP, by any lawful tests of its digits: its gates keep the rules and are counted,
-- L of the whole is the last gate, tells which of the two numbers is smaller, and is as deep as its node tells;
-- by document 01's tests, how many gates, products and squares it has, and that the depth is clog of p - 1 and clog of n.
-- The laws of joining, over the digits' laws.
-- Assumes nothing.
use mathlib.Core.Path.{◌≡◌, refl, ap, ◌∙◌}
use mathlib.Core.Bool.{true}
use mathlib.Core.List.{List, ◌++◌, map}
use Prim.Native.Nat.{ℕ, suc, ◌+◌, ◌-◌, ◌*◌, ◌/◌, ◌%◌, ◌≤◌, ◌<◌}
use native.Mathlib.Omega.{arith}
use native.Mathlib.Nat.{mul-le-mul_left}
use lib.Dec.{ltb}
use lib.ListN.{length, length-append}
use Rattle.field.specs.Bit.{bit}
use Rattle.field.specs.Logarithm.{clog, flog}
use Rattle.field.specs.Primes.{Prime}
use Rattle.field.proofs.Logarithm.{flog_less}
use Rattle.digits.specs.Number.{base, number}
use Rattle.circuit.specs.Count.{count, is_product, is_square}
use Rattle.circuit.specs.Depth.{depths}
use Rattle.circuit.specs.Gate.{Gate}
use Rattle.circuit.specs.Meaning.{Algebra, Solves}
use Rattle.circuit.specs.Segment.{Segment}
use Rattle.circuit.specs.Table.{Head, left_slots, right_slots, all_fit}
use Rattle.circuit.specs.Value.{values}
use Rattle.circuit.proofs.Count.{count_append}
use Rattle.circuit.proofs.Fitting.{fit_append}
use Rattle.circuit.proofs.Meaning.{solves_append}
use Rattle.comparison.specs.Condition.{Condition}
use Rattle.comparison.specs.DigitPromises.{first_digit, second_digit, InBase}
use Rattle.comparison.specs.Digits.{order_digit, order_digit_size, order_start, order_digits}
use Rattle.comparison.specs.Formulas.{gates_before_flip, products_of, squares_of, digit_products, digit_squares}
use Rattle.comparison.specs.Joining.{halves}
use Rattle.comparison.specs.Lawful.{Lawful}
use Rattle.comparison.specs.OrderDigit.{ascending}
use Rattle.comparison.specs.Tests.{Tests, base_tests}
use Rattle.comparison.specs.Writing.{less_of, equal_of, order_joining, order_segment}
use Rattle.comparison.proofs.Digits.{digits_end, each_digit, digits_fit, digits_count}
use Rattle.comparison.proofs.DigitTests.{order_follows, order_first, order_digit_fits, less_is, equal_is, less_deep, equal_deep, order_digit_count}
use Rattle.comparison.proofs.Halves.{halves_leaves, halves_height, halves_each, halves_upper}
use Rattle.comparison.proofs.Joining.{lowest_fits, lowest_value, lowest_tells, lowest_depth}
use Rattle.comparison.proofs.JoiningCount.{joining_length, joining_count, joining_last}
use Rattle.comparison.proofs.Lawful.{base_lawful}

module _ (p : ℕ) (t : Tests) (law : Lawful p t) (c : Condition) (some : 1 ≤ c.digits) (k : ℕ) where
  -- ---- where the digits and their tests stand

  abbrev n : ℕ
  n = c.digits

  abbrev size : ℕ
  size = order_digit_size t

  abbrev start : ℕ → ℕ
  start = order_start t k

  abbrev digits : List Gate
  digits = order_digits t c k n 0

  abbrev next : ℕ
  next = k + length digits

  next_is : next ≡ start n
  next_is = digits_end (order_digit t c) start (order_follows p t law c k) n k (order_first t k)

  -- a digit ends before a later one
  earlier : (i j : ℕ) → i < j → size * i + size ≤ size * j
  earlier i j l = omega (arith, mul-le-mul_left size l)

  less_before : (j : ℕ) → j < n → (less_of t k j).gate < next
  less_before j l = omega (arith, next_is, earlier j n l)

  equal_before : (j : ℕ) → 0 < j → j < n → (equal_of t k j).gate < next
  equal_before j low l = omega (arith, next_is, earlier j n l, earlier 0 j low)

  tests_apart : (i j : ℕ) → i < j → j < n
      → ((less_of t k i).gate < (equal_of t k j).gate) × (0 < i → (equal_of t k i).gate < (equal_of t k j).gate)
  tests_apart i j l m =
      let step = earlier i j l in
      let e = law.equal.some in
      (omega arith, λ low. omega (arith, earlier 0 i low))

  -- ---- the gates

  abbrev joined : Segment
  joined = order_joining t c k next

  abbrev gates : List Gate
  gates = digits ++ joined.gates

  pub order_size : length gates + flog n + t.equal.count ≡ size * n + 3 * (n - 1)
  order_size =
      omega (
        arith,
        length-append digits joined.gates,
        next_is,
        earlier 0 n some,
        joining_length (less_of t k) (equal_of t k) n next some,
      )

  pub order_last : suc joined.output.gate ≡ k + length gates
  order_last =
      joining_last (less_of t k) (equal_of t k) n next some
      (λ one. omega (arith, next_is, ap (λ (m : ℕ). size * m) one))
      ∙ omega (arith, length-append digits joined.gates)

  pub order_fits : (head : Head) → head.prime ≡ p → c.left + n ≤ left_slots head → c.right + n ≤ right_slots head
      → all_fit head k gates ≡ true
  order_fits head prime l r =
      fit_append head k digits joined.gates
      (digits_fit (order_digit t c) start (order_follows p t law c k) head n k (order_first t k)
      (λ j m. order_digit_fits head p prime c j (start j) (omega arith) (omega arith) t law))
      (lowest_fits (less_of t k) (equal_of t k) head (halves n 0 n) next
      (halves_each _ n some less_before) (halves_upper _ n some equal_before)).0

  -- ---- over any entries that solve them

  digit : {A : Type 0} (alg : Algebra A) (E : ℕ → A) → Solves alg E k gates
      → (j : ℕ) → j < n → Solves alg E (start j) (order_digit t c j (start j))
  digit alg E h = each_digit (order_digit t c) start (order_follows p t law c k) alg E n k joined.gates (order_first t k) h

  joining_solved : {A : Type 0} (alg : Algebra A) (E : ℕ → A) → Solves alg E k gates → Solves alg E next joined.gates
  joining_solved alg E h = (solves_append alg E digits joined.gates k h).1

  pub order_value : Prime p → 3 ≤ p → p % 2 ≡ 1 → (left right : List ℕ) (E : ℕ → ℕ) → Solves (values p left right) E k gates
      → ((j : ℕ) → InBase p left right c j)
      → let js = ascending n 0 in
      E joined.output.gate
      ≡ bit (ltb (number (base p) (map (first_digit left right c) js)) (number (base p) (map (second_digit left right c) js)))
  order_value prime three odd left right E h low =
      let alg = values p left right in
      lowest_value p (omega arith) left right (base p) (first_digit left right c) (second_digit left right c)
      (less_of t k) (equal_of t k) E (halves n 0 n) next (joining_solved alg E h)
      (halves_each _ n some (λ j l. low j))
      (halves_each _ n some (λ j l. less_is p left right E c j (start j) prime three odd (low j) t law (digit alg E h j l)))
      (halves_upper _ n some (λ j z l. equal_is p left right E c j (start j) prime three odd (low j) z t law (digit alg E h j l)))
      ∙ rw (halves_leaves n some)

  pub order_tells : (E : ℕ → ℕ) → Solves depths E k gates → E joined.output.gate ≡ joined.output.depth
  order_tells E h =
      lowest_tells (less_of t k) (equal_of t k) E (halves n 0 n) next (joining_solved depths E h)
      (halves_each _ n some (λ j l. less_deep p E c t law j (start j) (digit depths E h j l)))
      (halves_upper _ n some (λ j z l. equal_deep p E c t law j (start j) z (digit depths E h j l)))

-- ---- document 01's tests: the formulas

pub order_node : (p : ℕ) (c : Condition) (k : ℕ) → 1 ≤ c.digits
    → (order_segment (base_tests p) c k).output.depth ≡ clog (p - 1) + clog c.digits
unfolding order_segment
order_node p c k some =
    lowest_depth (clog (p - 1)) (less_of (base_tests p) k) (equal_of (base_tests p) k) (λ j. (refl, refl)) (halves c.digits 0 c.digits) _
    ∙ halves_height (clog (p - 1)) c.digits some

module _ (p : ℕ) (three : 3 ≤ p) (odd : p % 2 ≡ 1) (c : Condition) (some : 1 ≤ c.digits) (k : ℕ) where
  abbrev base_law : Lawful p (base_tests p)
  base_law = base_lawful p three odd

  pub order_length : length (order_segment (base_tests p) c k).gates ≡ gates_before_flip true p c.digits
  unfolding order_segment
  order_length =
      let m = c.digits in
      let same : order_digit_size (base_tests p) ≡ suc (p + 4 + (p - 3) / 2 + (p - 1) / 4) = omega arith in
      omega (arith, order_size p (base_tests p) base_law c some k, flog_less m some, ap (λ (d : ℕ). d * m) same)

  pub order_counts : (count is_product (order_segment (base_tests p) c k).gates ≡ products_of true p c.digits)
      × (count is_square (order_segment (base_tests p) c k).gates ≡ squares_of true p c.digits)
  unfolding order_segment
  order_counts =
      let t = base_tests p in
      let m = c.digits in
      let ds = order_digits t c k m 0 in
      let at = k + length ds in
      let js = (order_joining t c k at).gates in
      let ones = digits_count (order_digit t c) (order_start t k) is_product (digit_products true p) (λ j i. (order_digit_count p c j i three odd).0) m 0 in
      let twos = digits_count (order_digit t c) (order_start t k) is_square (digit_squares true p) (λ j i. (order_digit_count p c j i three odd).1) m 0 in
      let joins = joining_count (less_of t k) (equal_of t k) m at some
      (less_before p t base_law c some k) (equal_before p t base_law c some k) (tests_apart p t base_law c some k) in (
        omega (arith, count_append is_product ds js, ones, joins.0, flog_less m some),
        omega (arith, count_append is_square ds js, twos, joins.1),
      )
