-- The two polynomials of a digit, for every odd prime p: 1 - z^(p-1) is the test for 0, and the order polynomial is 1 above (p-1)/2 and 0 up to it.
-- Let h = (p-1)/2. The terms of the order polynomial with odd i are a sum over b from 1 to h of pairs: the sum over odd i of z^i b^(p-1-i), which is
-- z b times the geometric sum of z² and b². For z = b it is h, and for z = -b it is -h. Otherwise it is 0, as z² - b² times the geometric sum is
-- z^(p-1) - b^(p-1), which is 0 by Fermat. For 0 < z ≤ h one b is z and none is -z, so the odd terms come to h; for h < z < p one b is -z and none is z,
-- so they come to -h. The last term adds h + 1 where z is not 0: that makes p, and 1.
-- Assumes nothing.
use mathlib.Core.Path.{◌≡◌, refl, sym, ap, ap₂, ◌∙◌}
use mathlib.Core.Logic.{◌≢◌}
use mathlib.Core.Bool.{Bool, true, false}
use mathlib.Core.List.{[], ◌∷◌, map, map-append}
use Prim.Native.Nat.{ℕ, zero, suc, ◌+◌, ◌-◌, ◌*◌, ◌/◌, ◌%◌, ◌^◌, ◌≤◌, ◌<◌}
use native.Mathlib.Omega.{arith}
use native.Mathlib.Nat.{mod-lt, mod-eq_of_lt, zero-mod, mod_self, pow-zero, pow-succ', mul_comm, add_comm, add-zero, mul-zero, zero-mul}
use native.Mathlib.Numerals.{one-add}
use native.Mathlib.Decide.{dec_le}
use borrow.Author.Tests.{ne_eqb, lt-ltb, le-ltb}
use lib.Dec.{ltb, eqb}
use Rattle.field.specs.Sum.{sum, total}
use Rattle.field.specs.Bit.{bit}
use Rattle.field.specs.Primes.{Prime}
use Rattle.field.specs.Polynomials.{every_second, order_exponents, order_constant, order_polynomial}
use Rattle.field.specs.Promises.{ZeroTest, OrderTest}
use Rattle.field.proofs.Modular.{mod_same, multiple_between, mod_mul, add_cong, mul_cong, none_add, mul_none, none_mul, mul_unit, opposite_squares, minus_add, add_cancel, minus_of, minus_zero, sub_mod_is}
use Rattle.field.proofs.Sum.{sum_shift, sum_mul, sum_same, sum_swap, sum_cong, sum_none, sum_single, total_append}
use Rattle.field.proofs.OrderConstants.{constant_odd, constant_last}
use Rattle.field.proofs.Geometric.{geometric, telescope, geometric_same, geometric_cong}
use Rattle.field.proofs.Euclid.{different_squares}
use Rattle.field.proofs.Fermat.{fermat_one, fermat_zero}

-- ---- the zero test

pub zero_test_lem : ZeroTest
zero_test_lem p z prime l = sub_mod_is p 1 (z ^ (p - 1)) (omega arith) ∙ go z l
  where
    go : (z : ℕ) → z < p → (1 + (p - 1) * z ^ (p - 1)) % p ≡ bit (eqb z 0)
    go zero l = simp (fermat_zero p prime, mul-zero, add-zero) (mod-eq_of_lt prime.two)
    go (suc z) l =
        let small : suc z % p ≡ suc z = mod-eq_of_lt l in
        rw (ne_eqb (suc z) 0 (λ e. omega arith))
        ((minus_zero p 1 (suc z ^ (p - 1)) (omega arith)).1 (mod-eq_of_lt prime.two ∙ sym (fermat_one p (suc z) prime (omega arith))))

-- ---- the constants

pub constant_below : (p i : ℕ) → 2 ≤ p → order_constant p i < p
unfolding order_constant
constant_below p i two = go (eqb i (p - 1))
  where
    go : (t : Bool) → (elim t as (λ _. ℕ) [ true ↦ (p + 1) / 2 | false ↦ sum ((p - 1) / 2) (λ b. suc b ^ (p - 1 - i)) % p ]) < p
    go true = omega arith
    go false = mod-lt _ (omega arith)

-- ---- a sum over every second number

total_second : (n i : ℕ) (f : ℕ → ℕ) → total (map f (every_second n i)) ≡ sum n (λ k. f (i + 2 * k))
unfolding total every_second sum
total_second zero i f = refl
total_second (suc n) i f =
    ap₂ ◌+◌ (ap f (omega arith)) (total_second n (suc (suc i)) f ∙ sum_same n _ _ (λ k l. ap f (omega arith)))
    ∙ sym (sum_shift n (λ k. f (i + 2 * k)))

-- ---- a pair z, b: the sum over odd i of z^i b^(2h-i)

abbrev pair : ℕ → ℕ → ℕ → ℕ
pair h z b = sum h (λ k. z ^ (1 + 2 * k) * b ^ (2 * h - (1 + 2 * k)))

pow_square : (z n : ℕ) → z ^ (2 * n) ≡ (z * z) ^ n
pow_square z zero = simp pow-zero
pow_square z (suc n) =
    let e : 2 * suc n ≡ suc (suc (2 * n)) = omega arith in
    rw (e, pow-succ' z (suc (2 * n)), pow-succ' z (2 * n), pow_square z n, pow-succ' (z * z) n) (omega arith)

pair_geometric : (h z b : ℕ) → pair h z b ≡ z * b * geometric (z * z) (b * b) h
pair_geometric h z b = sum_same h _ _ squares ∙ sum_mul h (z * b) _
  where
    squares : (k : ℕ) → k < h → z ^ (1 + 2 * k) * b ^ (2 * h - (1 + 2 * k)) ≡ z * b * ((z * z) ^ k * (b * b) ^ (h - suc k))
    squares k l =
        let e : 2 * h - (1 + 2 * k) ≡ suc (2 * (h - suc k)) = omega arith in
        rw (e, one-add (2 * k), pow-succ' z (2 * k), pow-succ' b (2 * (h - suc k)), pow_square z k, pow_square b (h - suc k)) (omega arith)

module _ (p h : ℕ) (prime : Prime p) (whole : p ≡ suc (2 * h)) where
  some : 0 < p
  some = omega arith

  -- Fermat, for a square
  square_one : (z : ℕ) → z % p ≢ 0 → ((z * z) ^ h) % p ≡ 1
  square_one z n = let e : p - 1 ≡ 2 * h = omega arith in rw (← pow_square z h, ← e) (fermat_one p z prime n)

  pair_same : (z : ℕ) → z % p ≢ 0 → pair h z z % p ≡ h % p
  pair_same z n =
      mod_same p (pair_geometric h z z ∙ geometric_same (z * z) h) ∙ mul_unit p h ((z * z) ^ h) (square_one z n)

  pair_opposite : (z b : ℕ) → z % p ≢ 0 → (z + b) % p ≡ 0 → pair h z b % p ≡ ((p - 1) * h) % p
  pair_opposite z b n e = minus_of p (pair h z b) (pair h z z) some none ∙ mul_cong p (p - 1) (p - 1) _ h refl (pair_same z n)
    where
      G : ℕ
      G = geometric (z * z) (z * z) h

      replaced : (z * b * geometric (z * z) (b * b) h) % p ≡ (z * b * G) % p
      replaced = mul_cong p (z * b) (z * b) _ G refl (geometric_cong p (z * z) (b * b) (z * z) h (opposite_squares p z b e))

      none : (pair h z b + pair h z z) % p ≡ 0
      none =
          add_cong p _ (z * b * G) _ (z * z * G) (mod_same p (pair_geometric h z b) ∙ replaced) (mod_same p (pair_geometric h z z))
          ∙ mod_same p (omega arith)
          ∙ none_mul p (z + b) (z * G) e

  pair_other : (z b : ℕ) → z % p ≢ 0 → b % p ≢ 0 → z % p ≢ b % p → (z + b) % p ≢ 0 → pair h z b % p ≡ 0
  pair_other z b nz nb differ unopposed =
      mod_same p (pair_geometric h z b) ∙ mul_none p (z * b) G (different_squares p z b G prime differ unopposed squares)
    where
      G : ℕ
      G = geometric (z * z) (b * b) h

      squares : (z * z * G) % p ≡ (b * b * G) % p
      squares =
          add_cancel p _ _ ((b * b) ^ h) some
          (mod_same p (telescope (z * z) (b * b) h ∙ add_comm _ _)
          ∙ add_cong p (b * b * G) (b * b * G) ((z * z) ^ h) ((b * b) ^ h) refl (square_one z nz ∙ sym (square_one b nb)))

  -- ---- the sum over b from 1 to h

  pairs_low : (z : ℕ) → 0 < z → z ≤ h → sum h (λ b. pair h z (suc b)) % p ≡ h % p
  pairs_low z g l =
      let small : z % p ≡ z = mod-eq_of_lt (omega arith) in
      sum_single p h (z - 1) h _ (omega arith)
      (let e : suc (z - 1) ≡ z = omega arith in rw e (pair_same z (omega arith)))
      (λ b k n.
      let b_small : suc b % p ≡ suc b = mod-eq_of_lt (omega arith) in
      let sum_small : (z + suc b) % p ≡ z + suc b = mod-eq_of_lt (omega arith) in
      pair_other z (suc b) (omega arith) (omega arith) (omega arith) (omega arith))

  pairs_high : (z : ℕ) → h < z → z < p → sum h (λ b. pair h z (suc b)) % p ≡ ((p - 1) * h) % p
  pairs_high z g l =
      let small : z % p ≡ z = mod-eq_of_lt l in
      sum_single p h (p - suc z) ((p - 1) * h) _ (omega arith)
      (let e : z + suc (p - suc z) ≡ p = omega arith in pair_opposite z (suc (p - suc z)) (omega arith) (rw e (mod_self p)))
      (λ b k n.
      let b_small : suc b % p ≡ suc b = mod-eq_of_lt (omega arith) in
      pair_other z (suc b) (omega arith) (omega arith) (omega arith)
      (λ e. omega (arith, multiple_between p (z + suc b) (omega arith) (omega arith) e)))

  -- ---- the order polynomial as that sum and its last term

  term_odd : (z k : ℕ) → k < h → (order_constant p (1 + 2 * k) * z ^ (1 + 2 * k)) % p ≡ sum h (λ b. z ^ (1 + 2 * k) * suc b ^ (2 * h - (1 + 2 * k))) % p
  term_odd z k l =
      rw (constant_odd p h whole k l)
      (mod_mul _ (z ^ (1 + 2 * k)) p ∙ mod_same p (mul_comm _ (z ^ (1 + 2 * k)) ∙ sym (sum_mul h (z ^ (1 + 2 * k)) _)))

  by_terms : (z : ℕ) → order_polynomial p z ≡ sum h (λ k. order_constant p (1 + 2 * k) * z ^ (1 + 2 * k)) + suc h * z ^ (p - 1)
  unfolding order_polynomial order_exponents total
  by_terms z =
      let half : (p - 1) / 2 ≡ h = omega arith in
      ap total (map-append term (every_second ((p - 1) / 2) 1) ((p - 1) ∷ []))
      ∙ total_append (map term (every_second ((p - 1) / 2) 1)) (term (p - 1) ∷ [])
      ∙ rw (half, constant_last p h whole) (ap₂ ◌+◌ (total_second h 1 term) (add-zero _))
    where
      term : ℕ → ℕ
      term i = order_constant p i * z ^ i

  by_pairs : (z : ℕ) → order_polynomial p z % p ≡ (sum h (λ b. pair h z (suc b)) + suc h * z ^ (p - 1)) % p
  by_pairs z =
      mod_same p (by_terms z)
      ∙ add_cong p _ _ (suc h * z ^ (p - 1)) _
      (sum_cong p h _ _ (term_odd z) ∙ mod_same p (sum_swap h h (λ k b. z ^ (1 + 2 * k) * suc b ^ (2 * h - (1 + 2 * k)))))
      refl

  -- ---- its values

  at_zero : order_polynomial p 0 % p ≡ 0
  at_zero =
      by_pairs 0
      ∙ none_add p _ _ (sum_none p h _ (λ b l. mod_same p (pair_geometric h 0 (suc b) ∙ simp zero-mul) ∙ zero-mod p))
      ∙ simp (fermat_zero p prime, mul-zero) (zero-mod p)

  -- the sum and the last term, for z that is not 0
  at_other : (z a : ℕ) → z % p ≢ 0 → sum h (λ b. pair h z (suc b)) % p ≡ a % p → order_polynomial p z % p ≡ (a + suc h) % p
  at_other z a n e = by_pairs z ∙ add_cong p _ a _ (suc h) e (mul_unit p (suc h) (z ^ (p - 1)) (fermat_one p z prime n))

  -- h + (h + 1) is p
  at_low : (z : ℕ) → 0 < z → z ≤ h → order_polynomial p z % p ≡ 0
  at_low z g l =
      let small : z % p ≡ z = mod-eq_of_lt (omega arith) in
      let e : h + suc h ≡ p = omega arith in
      at_other z h (omega arith) (pairs_low z g l) ∙ rw e (mod_self p)

  -- -h + (h + 1) is 1
  at_high : (z : ℕ) → h < z → z < p → order_polynomial p z % p ≡ 1
  at_high z g l =
      let small : z % p ≡ z = mod-eq_of_lt l in
      at_other z ((p - 1) * h) (omega arith) (pairs_high z g l)
      ∙ mod_same p (omega arith)
      ∙ none_add p ((p - 1) * h + h) 1 (minus_add p h some)
      ∙ mod-eq_of_lt prime.two

pub order_test : OrderTest
order_test p z prime odd l = go z l (dec_le z h)
  where
    h : ℕ
    h = (p - 1) / 2

    whole : p ≡ suc (2 * h)
    whole = omega (arith, prime.two)

    go : (z : ℕ) → z < p → Dec (z ≤ h) → order_polynomial p z % p ≡ bit (ltb h z)
    go zero l (yes k) = rw (le-ltb h 0 k) (at_zero p h prime whole)
    go (suc z) l (yes k) = rw (le-ltb h (suc z) k) (at_low p h prime whole (suc z) (omega arith) k)
    go z l (no k) = rw (lt-ltb h z (omega arith)) (at_high p h prime whole z (omega arith) l)
