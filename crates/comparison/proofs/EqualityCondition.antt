-- An equality condition before its FLIP: its gates keep the rules and are counted, the output of its product tree is the last gate,
-- tells whether the two numbers are equal, and is clog of p - 1 and clog of n deep.
-- The laws of product trees, over the digits' laws: the product of the digits' bits is the bit of the numbers.
-- Assumes nothing.
use mathlib.Core.Path.{◌≡◌, refl, sym, ap, ap₂, ◌∙◌}
use mathlib.Core.Bool.{Bool, true, false}
use mathlib.Core.List.{List, [], ◌∷◌, ◌++◌, map}
use Prim.Native.Nat.{ℕ, zero, suc, ◌+◌, ◌-◌, ◌*◌, ◌%◌, ◌^◌, ◌≤◌, ◌<◌}
use native.Mathlib.Omega.{arith}
use native.Mathlib.Nat.{add-zero, mod-eq_of_lt}
use borrow.Author.Tests.{lt-ltb, eq-eqb}
use lib.Dec.{eqb}
use lib.ListN.{length, length-append}
use Rattle.field.specs.Bit.{bit}
use Rattle.field.specs.Logarithm.{clog}
use Rattle.field.specs.Primes.{Prime}
use Rattle.field.specs.Sum.{total}
use Rattle.field.proofs.Bit.{bit_and, bit_below}
use Rattle.field.proofs.Logarithm.{clog_factor}
use Rattle.digits.specs.Number.{base, number, all_below}
use Rattle.digits.proofs.Comparing.{number_equal}
use Rattle.digits.proofs.Number.{number_one}
use Rattle.circuit.specs.Count.{count, is_product, is_square}
use Rattle.circuit.specs.Depth.{depths}
use Rattle.circuit.specs.Every.{Every}
use Rattle.circuit.specs.Factors.{InOrder, breadth, list_product}
use Rattle.circuit.specs.Gate.{Gate}
use Rattle.circuit.specs.Meaning.{Algebra, Solves}
use Rattle.circuit.specs.ProductTree.{least}
use Rattle.circuit.specs.Segment.{Node, Segment}
use Rattle.circuit.specs.Table.{Head, left_slots, right_slots, all_fit}
use Rattle.circuit.specs.TreePromises.{TwoLeast}
use Rattle.circuit.specs.Value.{values}
use Rattle.circuit.proofs.Choosing.{first_of}
use Rattle.circuit.proofs.Count.{count_append}
use Rattle.circuit.proofs.Fitting.{fit_append}
use Rattle.circuit.proofs.Meaning.{solves_append}
use Rattle.circuit.proofs.ProductTree.{least_first, tree_last, product_fits, product_count, multiply_value, multiply_below, multiply_entry}
use Rattle.circuit.proofs.TreeDepth.{tree_depth}
use Rattle.comparison.specs.Condition.{Condition}
use Rattle.comparison.specs.DigitPromises.{first_digit, second_digit, InBase}
use Rattle.comparison.specs.Digits.{equality_digit, equality_digit_size, equality_start, equality_digits}
use Rattle.comparison.specs.Formulas.{gates_before_flip, products_of, squares_of, digit_products, digit_squares}
use Rattle.comparison.specs.OrderDigit.{ascending}
use Rattle.comparison.specs.Writing.{zero_of, equality_factors, equality_joining}
use Rattle.comparison.proofs.Digits.{digits_end, each_digit, digits_fit, digits_count}
use Rattle.comparison.proofs.DigitTests.{equality_follows, equality_first, equality_digit_fits, zero_is, zero_deep, equality_digit_count}

-- numbers of a lowest digit and others are equal where these are
equal_cons : (B x y : ℕ) (xs ys : List ℕ) → x < B → y < B
    → bit (eqb x y) * bit (eqb (number B xs) (number B ys)) ≡ bit (eqb (number B (x ∷ xs)) (number B (y ∷ ys)))
unfolding all_below
equal_cons B x y xs ys l m =
    let parts = number_equal B (x ∷ []) xs (y ∷ []) ys refl (rw (lt-ltb x B l)) (rw (lt-ltb y B m)) in
    rw (rw (number_one B x, number_one B y) at parts) (omega (arith, bit_and (eqb (number B xs) (number B ys)) (eqb x y)))

module _ (p : ℕ) (two : 2 ≤ p) (c : Condition) (some : 1 ≤ c.digits) (k : ℕ) where
  -- ---- where the digits and their tests stand

  abbrev size : ℕ
  size = equality_digit_size p

  abbrev start : ℕ → ℕ
  start = equality_start p k

  abbrev digits : List Gate
  digits = equality_digits p c k c.digits 0

  abbrev next : ℕ
  next = k + length digits

  next_is : next ≡ start c.digits
  next_is = digits_end (equality_digit p c) start (equality_follows p two c k) c.digits k (equality_first p k)

  -- ---- the factors

  abbrev factors_from : ℕ → ℕ → List Node
  factors_from n j = equality_factors p k n j

  abbrev factors : List Node
  factors = factors_from c.digits 0

  factors_length : (n j : ℕ) → length (factors_from n j) ≡ n
  unfolding equality_factors
  factors_length zero j = refl
  factors_length (suc n) j = ap suc (factors_length n (suc j))

  factors_order : (n j i m : ℕ) → i ≤ start j → start (n + j) ≤ m → InOrder i m (factors_from n j)
  unfolding equality_factors InOrder
  factors_order zero j i m low high = omega arith
  factors_order (suc n) j i m low high =
      (omega arith, factors_order n (suc j) _ m (omega arith) (omega arith))

  order : InOrder 0 next factors
  order =
      let end = ap start (add-zero c.digits) in factors_order c.digits 0 0 next (omega arith) (omega (arith, next_is, end))

  one_factor : (n j : ℕ) → n ≡ 1 → suc (first_of (factors_from n j)).gate ≡ start (suc j)
  unfolding equality_factors least
  one_factor zero j e = absurd (omega arith)
  one_factor (suc zero) j e = omega arith
  one_factor (suc (suc n)) j e = absurd (omega arith)

  -- ---- the gates

  abbrev joined : Segment
  joined = equality_joining p c k next

  abbrev gates : List Gate
  gates = digits ++ joined.gates

  abbrev enough : 1 ≤ length factors
  enough = omega (arith, factors_length c.digits 0)

  pub equality_length : length gates ≡ gates_before_flip false p c.digits
  equality_length =
      let tree = (product_count next factors enough order).0 in
      omega (arith, length-append digits joined.gates, next_is, tree, factors_length c.digits 0)

  pub equality_counts : (count is_product gates ≡ products_of false p c.digits) × (count is_square gates ≡ squares_of false p c.digits)
  equality_counts =
      let counts = equality_digit_count p c in
      let ones = digits_count (equality_digit p c) start is_product (digit_products false p) (λ j i. (counts j i two).0) c.digits 0 in
      let twos = digits_count (equality_digit p c) start is_square (digit_squares false p) (λ j i. (counts j i two).1) c.digits 0 in
      let t = product_count next factors enough order in
      let n = factors_length c.digits 0 in (
        omega (arith, count_append is_product digits joined.gates, ones, t.1, n),
        omega (arith, count_append is_square digits joined.gates, twos, t.2),
      )

  pub equality_last : suc joined.output.gate ≡ k + length gates
  equality_last =
      let n = factors_length c.digits 0 in
      tree_last next factors enough
      (λ single. one_factor c.digits 0 (omega arith) ∙ sym (next_is ∙ ap start (sym n ∙ single)))
      ∙ omega (arith, length-append digits joined.gates, (product_count next factors enough order).0)

  pub equality_least : TwoLeast next factors joined.gates joined.output
  equality_least = least_first next factors enough order

  pub equality_fits : (head : Head) → head.prime ≡ p → c.left + c.digits ≤ left_slots head → c.right + c.digits ≤ right_slots head
      → all_fit head k gates ≡ true
  equality_fits head prime l r =
      fit_append head k digits joined.gates
      (digits_fit (equality_digit p c) start (equality_follows p two c k) head c.digits k (equality_first p k)
      (λ j m. equality_digit_fits head p prime c j (start j) (omega arith) (omega arith) two))
      (product_fits head next factors enough order)

  -- ---- over any entries that solve them

  digit : {A : Type 0} (alg : Algebra A) (E : ℕ → A) → Solves alg E k gates
      → (j : ℕ) → j < c.digits → Solves alg E (start j) (equality_digit p c j (start j))
  digit alg E h = each_digit (equality_digit p c) start (equality_follows p two c k) alg E c.digits k joined.gates (equality_first p k) h

  -- what is true of each digit's output is true of every factor
  every_factor : (P : ℕ → Type 0) → ((j : ℕ) → j < c.digits → P (zero_of p k j).gate) → (n j : ℕ) → n + j ≤ c.digits
      → Every (λ (f : Node). P f.gate) (factors_from n j)
  unfolding equality_factors
  every_factor P h zero j l = tt
  every_factor P h (suc n) j l = (h j (omega arith), every_factor P h n (suc j) (omega arith))

  module _ (prime : Prime p) (three : 3 ≤ p) (odd : p % 2 ≡ 1) (left right : List ℕ) (E : ℕ → ℕ)
      (h : Solves (values p left right) E k gates) (low : (j : ℕ) → InBase p left right c j) where
    abbrev x : ℕ → ℕ
    x = first_digit left right c

    abbrev y : ℕ → ℕ
    y = second_digit left right c

    factor_value : (j : ℕ) → j < c.digits → E (zero_of p k j).gate ≡ bit (eqb (x j) (y j))
    factor_value j l = zero_is p left right E c j (start j) prime three odd (low j) (digit (values p left right) E h j l)

    abbrev same_from : ℕ → ℕ → Bool
    same_from n j = eqb (number (base p) (map x (ascending n j))) (number (base p) (map y (ascending n j)))

    product_is : (n j : ℕ) → n + j ≤ c.digits → list_product (map (λ (f : Node). E f.gate) (factors_from n j)) ≡ bit (same_from n j)
    unfolding equality_factors list_product ascending
    product_is zero j l = ap bit (sym (eq-eqb (number (base p) []) (number (base p) []) refl))
    product_is (suc n) j l =
        ap₂ ◌*◌ (factor_value j (omega arith)) (product_is n (suc j) (omega arith))
        ∙ equal_cons (base p) (x j) (y j) (map x (ascending n (suc j))) (map y (ascending n (suc j))) (low j).0 (low j).1

    below : (j : ℕ) → j < c.digits → E (zero_of p k j).gate < p
    below j l = rw (factor_value j l) (bit_below p (omega arith) (eqb (x j) (y j)))

    pub equality_value : E joined.output.gate ≡ bit (same_from c.digits 0)
    equality_value =
        let n = factors_length c.digits 0 in
        let s = (solves_append (values p left right) E digits joined.gates k h).1 in
        let all : c.digits + 0 ≤ c.digits = omega arith in
        sym (mod-eq_of_lt (multiply_below p left right E (length factors - 1) next factors (omega arith) (omega (arith, n)) s
        (every_factor (λ (g : ℕ). E g < p) below c.digits 0 all)))
        ∙ multiply_value p left right E (length factors - 1) next factors (omega arith) (omega (arith, n)) s
        ∙ ap (λ (v : ℕ). v % p) (product_is c.digits 0 all)
        ∙ mod-eq_of_lt (bit_below p (omega arith) (same_from c.digits 0))

  -- ---- depths

  breadth_is : (n j : ℕ) → breadth (factors_from n j) ≡ 2 ^ clog (p - 1) * n
  unfolding equality_factors total
  breadth_is zero j = omega arith
  breadth_is (suc n) j = omega (arith, breadth_is n (suc j))

  pub equality_node : joined.output.depth ≡ clog (p - 1) + clog c.digits
  equality_node = tree_depth next factors enough ∙ ap clog (breadth_is c.digits 0) ∙ clog_factor (clog (p - 1)) c.digits some

  pub equality_tells : (E : ℕ → ℕ) → Solves depths E k gates → E joined.output.gate ≡ joined.output.depth
  unfolding equality_factors
  equality_tells E h =
      let s = (solves_append depths E digits joined.gates k h).1 in
      multiply_entry E (length factors - 1) next factors (omega (arith, factors_length c.digits 0)) s (known c.digits 0 (omega arith))
    where
      deep : (j : ℕ) → j < c.digits → E (zero_of p k j).gate ≡ clog (p - 1)
      deep j l = zero_deep p E c two j (start j) (digit depths E h j l)

      known : (n j : ℕ) → n + j ≤ c.digits → Every (λ (f : Node). E f.gate ≡ f.depth) (factors_from n j)
      known zero j l = tt
      known (suc n) j l = (deep j (omega arith), known n (suc j) (omega arith))
