-- The tests of an order digit: L is the order polynomial of z, E the zero test; both are clog of p - 1 deep.
-- Put together from the powers and the terms.
-- Assumes nothing.
use mathlib.Core.Path.{◌≡◌, refl, sym, ◌∙◌}
use mathlib.Core.Logic.{inl, inr}
use mathlib.Core.Bool.{true}
use mathlib.Core.List.{List, [], ◌∷◌}
use Prim.Native.Nat.{ℕ, suc, ◌+◌, ◌-◌, ◌*◌, ◌/◌, ◌%◌, ◌^◌, ◌≤◌, ◌<◌}
use native.Mathlib.Omega.{arith}
use native.Mathlib.Decide.{dec_le}
use native.Mathlib.Nat.{lt_of_not-le, le_antisymm, mod-eq_of_lt}
use lib.ListN.{length, length-append}
use Rattle.field.specs.Half.{half}
use Rattle.field.specs.Logarithm.{clog}
use Rattle.field.specs.Polynomials.{every_second, order_exponents, order_polynomial, zero_test}
use Rattle.field.proofs.Logarithm.{clog_mono}
use Rattle.field.proofs.Modular.{sub_cong}
use Rattle.field.proofs.OrderConstants.{length_second}
use Rattle.circuit.specs.Count.{count, is_product, is_square}
use Rattle.circuit.specs.Depth.{depths}
use Rattle.circuit.specs.Every.{Every}
use Rattle.circuit.specs.Meaning.{Algebra, Solves}
use Rattle.circuit.specs.Sums.{sum_gate}
use Rattle.circuit.specs.Table.{Head, all_fit}
use Rattle.circuit.specs.Value.{values}
use Rattle.circuit.proofs.Count.{count_append}
use Rattle.circuit.proofs.Every.{every_append, every_last}
use Rattle.circuit.proofs.Fitting.{all_fit_lem, fit_append}
use Rattle.circuit.proofs.Meaning.{solves_append}
use Rattle.circuit.proofs.Sums.{largest_covers, largest_within}
use Rattle.comparison.specs.Difference.{z_gate}
use Rattle.comparison.specs.OrderDigit.{powers, power_count, power_gate, terms, term_start, less_count, less_gates, equal_gates}
use Rattle.comparison.proofs.Mapped.{every_second_lem}
use Rattle.comparison.proofs.Powers.{Asked, gate_low, gate_high, asked_top, powers_length, power_value, power_depth}
use Rattle.comparison.proofs.PowersCount.{powers_fit, powers_count}
use Rattle.comparison.proofs.Terms.{terms_count, terms_fit, terms_value, terms_below, terms_depth}

-- ---- the gates of L and of E

abbrev pub less_gate : ℕ → ℕ → ℕ
less_gate p k = z_gate k + less_count p

abbrev pub equal_gate : ℕ → ℕ → ℕ
equal_gate p k = suc (less_gate p k)

-- ---- the exponents of the terms

pub exponents_length : (p : ℕ) → length (order_exponents p) ≡ suc (half p)
unfolding order_exponents
exponents_length p = length-append (every_second (half p) 1) ((p - 1) ∷ []) ∙ omega (arith, length_second (half p) 1)

-- they are written powers
every_exponent : (P : ℕ → Type 0) (p : ℕ) → 3 ≤ p → p % 2 ≡ 1 → ((i : ℕ) → 1 ≤ i → Asked p i → P i) → Every P (order_exponents p)
unfolding order_exponents
every_exponent P p three odd h =
    every_append P (every_second (half p) 1) ((p - 1) ∷ [])
    (every_second_lem P (half p) 1 (λ m l. h (1 + 2 * m) (omega arith) (inl (omega arith))))
    (h (p - 1) (omega arith) (inr refl), tt)

last_exponent : (P : ℕ → Type 0) (p : ℕ) → Every P (order_exponents p) → P (p - 1)
unfolding order_exponents
last_exponent P p h = every_last P (every_second (half p) 1) (p - 1) h

-- the powers stand before the terms
power_before : (p z i : ℕ) → p % 2 ≡ 1 → 3 ≤ p → 1 ≤ i → Asked p i → power_gate p z i < suc z + power_count p
power_before p z i odd three one asked = go (dec_le i (half p))
  where
    go : Dec (i ≤ half p) → power_gate p z i < suc z + power_count p
    go (yes l) = rw (gate_low p z i l) (omega arith)
    go (no n) = rw (gate_high p z i (lt_of_not-le n)) (omega (arith, asked_top p i asked))

module _ (p : ℕ) (three : 3 ≤ p) (odd : p % 2 ≡ 1) where
  some : 1 ≤ length (order_exponents p)
  some = omega (arith, exponents_length p)

  -- the sum is the last of the terms
  sum_last : (k : ℕ) → sum_gate (term_start p k) (length (order_exponents p)) ≡ less_gate p k
  sum_last k = omega (arith, exponents_length p)

  -- ---- how many gates

  pub less_length : (k : ℕ) → length (less_gates p k) ≡ power_count p + p
  less_length k =
      length-append (powers p (z_gate k)) _
      ∙ omega (
        arith,
        powers_length p (z_gate k) three odd,
        exponents_length p,
        (terms_count p (z_gate k) (term_start p k) (order_exponents p)).0,
      )

  pub less_count_lem : (k : ℕ) → (count is_product (less_gates p k) ≡ half p - 1) × (count is_square (less_gates p k) ≡ half p / 2 + 1)
  less_count_lem k =
      let z = z_gate k in
      let ps = powers p z in
      let ts = terms p z (term_start p k) (order_exponents p) in
      let first = powers_count p z three odd in
      let second = terms_count p z (term_start p k) (order_exponents p) in
      (omega (arith, count_append is_product ps ts, first.0, second.1), omega (arith, count_append is_square ps ts, first.1, second.2))

  -- ---- what they name

  pub less_fits : (head : Head) (k : ℕ) → head.prime ≡ p → all_fit head (suc (z_gate k)) (less_gates p k) ≡ true
  less_fits head k prime =
      let z = z_gate k in
      let after : suc z + length (powers p z) ≡ term_start p k = omega (arith, powers_length p z three odd) in
      fit_append head (suc z) (powers p z) _ (powers_fit head p z three odd)
      (rw after (terms_fit head p z (omega arith) odd prime (term_start p k) (order_exponents p)
      (every_exponent _ p three odd (λ i one asked. power_before p z i odd three one asked))))

  pub equal_fits : (head : Head) (k : ℕ) → all_fit head (equal_gate p k) (equal_gates p k) ≡ true
  equal_fits head k =
      all_fit_lem head (equal_gate p k) (equal_gates p k)
      (omega (arith, power_before p (z_gate k) (p - 1) odd three (omega arith) (inr refl)), tt)

  -- ---- over any entries: the powers and the terms

  parts : {A : Type 0} (alg : Algebra A) (E : ℕ → A) (k : ℕ) → Solves alg E (suc (z_gate k)) (less_gates p k)
      → Solves alg E (suc (z_gate k)) (powers p (z_gate k))
      × Solves alg E (term_start p k) (terms p (z_gate k) (term_start p k) (order_exponents p))
  parts alg E k h =
      let z = z_gate k in
      let after : suc z + length (powers p z) ≡ term_start p k = omega (arith, powers_length p z three odd) in
      let s = solves_append alg E (powers p z) _ (suc z) h in (s.0, rw after at s.1)

  -- ---- values

  module _ (left right : List ℕ) (E : ℕ → ℕ) (k : ℕ) (h : Solves (values p left right) E (suc (z_gate k)) (less_gates p k)) where
    power_is : (i : ℕ) → 1 ≤ i → Asked p i → E (power_gate p (z_gate k) i) % p ≡ (E (z_gate k) ^ i) % p
    power_is = power_value left right E p (z_gate k) three odd (parts (values p left right) E k h).0

    pub powers_are : Every (λ i. E (power_gate p (z_gate k) i) % p ≡ (E (z_gate k) ^ i) % p) (order_exponents p)
    powers_are = every_exponent _ p three odd power_is

    pub less_value : E (less_gate p k) ≡ order_polynomial p (E (z_gate k)) % p
    unfolding order_polynomial
    less_value =
        let ts = (parts (values p left right) E k h).1 in
        let z = z_gate k in
        let t = term_start p k in
        let is = order_exponents p in
        rw (← sum_last k)
        (sym (mod-eq_of_lt (terms_below left right E p z (E z) (omega arith) t is some ts))
        ∙ terms_value left right E p z (E z) (omega arith) t is some powers_are ts)

    pub equal_value : Solves (values p left right) E (equal_gate p k) (equal_gates p k) → E (equal_gate p k) ≡ zero_test p (E (z_gate k))
    equal_value e = e.0 ∙ sub_cong p 1 _ _ (omega arith) (power_is (p - 1) (omega arith) (inr refl))

  -- ---- depths

  module _ (E : ℕ → ℕ) (k : ℕ) (h : Solves depths E (suc (z_gate k)) (less_gates p k)) (flat : E (z_gate k) ≡ 0) where
    deep : (i : ℕ) → 1 ≤ i → Asked p i → E (power_gate p (z_gate k) i) ≡ clog i
    deep = power_depth E p (z_gate k) three odd (parts depths E k h).0 flat

    pub less_depth : E (less_gate p k) ≡ clog (p - 1)
    less_depth =
        let z = z_gate k in
        let is = order_exponents p in
        let depth : ℕ → ℕ = λ i. E (power_gate p z i) in
        rw (← sum_last k)
        (terms_depth E p z (term_start p k) is some (parts depths E k h).1
        ∙ le_antisymm
        (largest_within depth (clog (p - 1)) is
        (every_exponent _ p three odd (λ i one asked. omega (arith, deep i one asked, clog_mono (asked_top p i asked)))))
        (omega (arith, deep (p - 1) (omega arith) (inr refl), last_exponent _ p (largest_covers depth is))))

    pub equal_depth : Solves depths E (equal_gate p k) (equal_gates p k) → E (equal_gate p k) ≡ clog (p - 1)
    equal_depth e = e.0 ∙ deep (p - 1) (omega arith) (inr refl)
