-- The tests of document 01's order digit are a network over z, whose outputs are L and, of every digit but the lowest, E.
-- z^i is read by z^(2i+1) for i below (p-1)/2 and by z^(p-1) for i = (p-1)/2, a higher power by its term.
-- The exponents ascend, and the gates that a power multiplies add up to more the higher its exponent is, so no pair is repeated.
-- Assumes nothing.
use mathlib.Core.Path.{◌≡◌, sym, ap, ◌∙◌}
use mathlib.Core.List.{List, [], ◌∷◌, ◌++◌, map, map-append}
use mathlib.Core.Logic.{◌↔◌, ◌⊎◌, inl, inr, ⊎_elim}
use Prim.Native.Nat.{ℕ, zero, suc, ◌+◌, ◌-◌, ◌*◌, ◌/◌, ◌%◌, ◌≤◌, ◌<◌}
use native.Mathlib.Omega.{arith}
use native.Mathlib.Decide.{dec_le, dec_lt, ℕ_discrete}
use lib.ListN.{length, length-append, length-map}
use Rattle.field.specs.Half.{half}
use Rattle.field.specs.Polynomials.{every_second, order_exponents}
use Rattle.circuit.specs.Every.{Some}
use Rattle.circuit.specs.Gate.{Gate}
use Rattle.circuit.specs.Segment.{Node}
use Rattle.circuit.proofs.AllCounted.{Read}
use Rattle.circuit.proofs.Ends.{sum_read, sum_own, sum_none}
use Rattle.circuit.proofs.Every.{every_append}
use Rattle.circuit.proofs.Networks.{Among, Network, over_one}
use Rattle.circuit.proofs.Some.{some_map, some_made, some_left, some_right}
use Rattle.circuit.proofs.Unrepeated.{EachPair, EachFactor, NoMul, Unrepeated, factors_map, none_has, first_apart, none_after}
use Rattle.comparison.specs.Difference.{z_gate}
use Rattle.comparison.specs.Digits.{order_tests}
use Rattle.comparison.specs.OrderDigit.{ascending, low_exponents, next_odd, odd_exponents, low_power, power_of, powers, power_count, power_gate, term, terms, term_start, less_gates, equal_gates}
use Rattle.comparison.specs.Tests.{less_node, equal_node, base_tests}
use Rattle.comparison.proofs.DifferenceNetwork.{z_node}
use Rattle.comparison.proofs.DigitsNetwork.{less_and_equal}
use Rattle.comparison.proofs.OrderDigit.{exponents_length, less_length}
use Rattle.comparison.proofs.Powers.{gate_high}

-- ---- where an exponent stands

-- e is one of the numbers
abbrev Has : ℕ → List ℕ → Type 0
Has e is = Some (λ (i : ℕ). i ≡ e) is

has_ascending : (n i e : ℕ) → i ≤ e → e < i + n → Has e (ascending n i)
unfolding ascending
has_ascending zero i e l m = absurd (omega arith)
has_ascending (suc n) i e l m = go (ℕ_discrete i e) (λ more. has_ascending n (suc i) e more (omega arith))
  where
    go : Dec (i ≡ e) → (suc i ≤ e → Has e (ascending n (suc i))) → Has e (i ∷ ascending n (suc i))
    go (yes s) later = inl s
    go (no s) later = inr (later (omega arith))

has_second : (n i m e : ℕ) → m < n → e ≡ i + 2 * m → Has e (every_second n i)
unfolding every_second
has_second zero i m e l s = absurd (omega arith)
has_second (suc n) i zero e l s = inl (omega arith)
has_second (suc n) i (suc m) e l s = inr (has_second n (suc (suc i)) m e (omega arith) (omega arith))

-- ---- the exponents of the powers

-- ascending, after i and below m
abbrev Rising : ℕ → ℕ → List ℕ → Type 0
Rising i m [] = i < m
Rising i m (j ∷ js) = (i < j) × Rising j m js

rising_below : (i m : ℕ) (js : List ℕ) → Rising i m js → i < m
rising_below i m [] h = h
rising_below i m (j ∷ js) h = omega (arith, h.0, rising_below j m js h.1)

rising_lower : (i j m : ℕ) (js : List ℕ) → i ≤ j → Rising j m js → Rising i m js
rising_lower i j m [] l h = omega arith
rising_lower i j m (x ∷ xs) l h = (omega (arith, h.0), h.1)

rising_append : (i m n : ℕ) (xs ys : List ℕ) → Rising i m xs → Rising (m - 1) n ys → Rising i n (xs ++ ys)
rising_append i m n [] ys h k = rising_lower i (m - 1) n ys (omega arith) k
rising_append i m n (x ∷ xs) ys h k = (h.0, rising_append x m n xs ys h.1 k)

rising_ascending : (i m n s : ℕ) → i < s → s + n ≤ m → Rising i m (ascending n s)
unfolding ascending
rising_ascending i m zero s l h = omega arith
rising_ascending i m (suc n) s l h = (l, rising_ascending s m n (suc s) (omega arith) (omega arith))

rising_second : (i m n s : ℕ) → i < s → i < m → s + 2 * n < m + 2 → Rising i m (every_second n s)
unfolding every_second
rising_second i m zero s l k h = k
rising_second i m (suc n) s l k h = (l, rising_second s m n (suc (suc s)) (omega arith) (omega arith) (omega arith))

module _ (p : ℕ) (three : 3 ≤ p) (odd : p % 2 ≡ 1) where
  abbrev exponents : List ℕ
  exponents = low_exponents p ++ (odd_exponents p ++ ((p - 1) ∷ []))

  exponents_rise : Rising 1 p exponents
  exponents_rise =
      rising_append 1 (half p + 1) p (low_exponents p) _ (rising_ascending 1 (half p + 1) (half p - 1) 2 (omega arith) (omega arith))
      (rising_append (half p + 1 - 1) (p - 1) p (odd_exponents p) _
      (rising_second (half p + 1 - 1) (p - 1) ((p - next_odd (half p)) / 2) (next_odd (half p)) (omega arith) (omega arith) (omega arith))
      (omega arith, omega arith))

  -- every odd exponent from 3 to p - 2, and p - 1, is written
  odd_written : (e : ℕ) → e % 2 ≡ 1 → 2 ≤ e → e < p - 1 → Has e exponents
  odd_written e o two l = go (dec_le e (half p))
    where
      go : Dec (e ≤ half p) → Has e exponents
      go (yes m) = some_left _ (low_exponents p) _ (has_ascending (half p - 1) 2 e two (omega arith))
      go (no m) =
          let first = next_odd (half p) in
          some_right _ (low_exponents p) _ (some_left _ (odd_exponents p) _
          (has_second ((p - first) / 2) first ((e - first) / 2) e (omega arith) (omega arith)))

  last_written : Has (p - 1) exponents
  last_written = some_right _ (low_exponents p) _ (some_right _ (odd_exponents p) _ (inl (omega arith)))

  module _ (z : ℕ) where
    powers_map : powers p z ≡ map (power_of z) exponents
    powers_map =
        sym (map-append (power_of z) (low_exponents p) _
        ∙ ap (λ (later : List Gate). map (power_of z) (low_exponents p) ++ later) (map-append (power_of z) (odd_exponents p) ((p - 1) ∷ [])))

    -- ---- what is read

    power_read : (x e : ℕ) → low_power z (e / 2) ≡ x → Has e exponents → Read x (powers p z)
    power_read x e s h =
        rw powers_map
        (some_made _ (power_of z) exponents (some_map (λ i t. inl (ap (λ (y : ℕ). low_power z (y / 2)) t ∙ s)) exponents h))

    -- z and the powers up to (p-1)/2
    low_read : (x : ℕ) → z ≤ x → x < z + half p → Read x (powers p z)
    low_read x l m = go (ℕ_discrete (suc x) (z + half p))
      where
        go : Dec (suc x ≡ z + half p) → Read x (powers p z)
        go (yes s) = power_read x (p - 1) (omega arith) last_written
        go (no s) =
            let e = 2 * (x - z + 1) + 1 in power_read x e (omega arith) (odd_written e (omega arith) (omega arith) (omega arith))

    term_read : (x e k : ℕ) → power_gate p z e ≡ x → Has e (order_exponents p) → Read x (terms p z k (order_exponents p))
    term_read x e k s h =
        sum_read x k (map (term p z) (order_exponents p))
        (some_made _ (term p z) (order_exponents p) (some_map (λ i t. inl (ap (power_gate p z) t ∙ s)) (order_exponents p) h))

    -- the powers above
    high_read : (x k : ℕ) → z + half p ≤ x → x < suc z + power_count p → Read x (terms p z k (order_exponents p))
    unfolding order_exponents
    high_read x k l m = go (ℕ_discrete x (z + power_count p))
      where
        go : Dec (x ≡ z + power_count p) → Read x (terms p z k (order_exponents p))
        go (yes s) =
            term_read x (p - 1) k (gate_high p z (p - 1) (omega arith) ∙ omega arith)
            (some_right _ (every_second (half p) 1) _ (inl (omega arith)))
        go (no s) =
            let e = next_odd (half p) + 2 * (x - (z + half p)) in
            term_read x e k (gate_high p z e (omega arith) ∙ omega arith)
            (some_left _ (every_second (half p) 1) _ (has_second (half p) 1 ((e - 1) / 2) e (omega arith) (omega arith)))

    -- ---- pairs

    -- of a power after z^i, the two gates add up to more
    later_pairs : (i m : ℕ) (js : List ℕ) → 1 ≤ i → Rising i m js → EachPair (λ a b. 2 * z + i < a + b + 2) (map (power_of z) js)
    later_pairs i m [] one h = tt
    later_pairs i m (j ∷ js) one h =
        (omega (arith, h.0), later_pairs i m js one (rising_lower i j m js (omega (arith, h.0)) h.1))

    powers_unrepeated : (i m : ℕ) (js : List ℕ) → 1 ≤ i → Rising i m js → Unrepeated (map (power_of z) js)
    powers_unrepeated i m [] one h = tt
    powers_unrepeated i m (j ∷ js) one h = (
      first_apart (λ a b. a + b + 2 ≡ 2 * z + j) (λ a b. 2 * z + j < a + b + 2) (λ a b q. (λ r. omega arith, λ r. omega arith))
          (power_of z j) (map (power_of z) js) (omega (arith, h.0)) (later_pairs j m js (omega (arith, h.0)) h.1),
      powers_unrepeated j m js (omega (arith, h.0)) h.1,
    )

    -- a power multiplies z and powers up to (p-1)/2
    power_factors : (i m : ℕ) (js : List ℕ) → 1 ≤ i → Rising i m js → m ≤ p
        → EachFactor (λ x. (z ≤ x) × (x < z + half p)) (map (power_of z) js)
    power_factors i m [] one h top = tt
    power_factors i m (j ∷ js) one h top =
        let low = h.0 in
        let high = rising_below j m js h.1 in
        (((omega arith, omega arith), (omega arith, omega arith)), power_factors j m js (omega arith) h.1 top)

    -- a term is no MUL
    terms_none : (k : ℕ) (is : List ℕ) → NoMul (terms p z k is)
    terms_none k is = sum_none k (map (term p z) is) (go is)
      where
        go : (is : List ℕ) → NoMul (map (term p z) is)
        go [] = tt
        go (i ∷ is) = (tt, go is)

  -- ---- the tests

  -- over the difference whose first gate is number k
  module _ (k : ℕ) where
    abbrev z : ℕ
    z = z_gate k

    abbrev L : ℕ
    L = (less_node (base_tests p) k).gate

    -- each gate from z on and before L is read
    before_read : (x : ℕ) → z ≤ x → x < L → Read x (less_gates p k)
    before_read x l m = go (dec_lt x (z + half p)) (dec_lt x (term_start p k))
      where
        go : Dec (x < z + half p) → Dec (x < term_start p k) → Read x (less_gates p k)
        go (yes a) b = some_left _ (powers p z) _ (low_read z x l a)
        go (no a) (yes b) = some_right _ (powers p z) _ (high_read z x (term_start p k) (omega arith) b)
        go (no a) (no b) =
            let is = order_exponents p in
            let count : length (map (term p z) is) ≡ suc (half p) = length-map is (term p z) ∙ exponents_length p in
            some_right _ (powers p z) _ (sum_own x (term_start p k) (map (term p z) is) (omega arith) (omega arith))

    less_unrepeated : Unrepeated (less_gates p k)
    less_unrepeated =
        none_after (powers p z) _ (rw (powers_map z) (powers_unrepeated z 1 p exponents (omega arith) exponents_rise))
        (terms_none z (term_start p k) (order_exponents p))

    less_factors : EachFactor (λ x. (z ≤ x) × (x < L)) (less_gates p k)
    less_factors =
        every_append _ (powers p z) _
        (rw (powers_map z) (factors_map (λ x l. (l.0, omega (arith, l.1))) (map (power_of z) exponents)
        (power_factors z 1 p exponents (omega arith) exponents_rise (omega arith))))
        (none_has _ (terms p z (term_start p k) (order_exponents p)) (terms_none z (term_start p k) (order_exponents p)))

    -- L, then gates without a MUL, of which none is read
    module _ (later : List Gate) (none : NoMul later) (outputs : List Node)
        (are : (x : ℕ) → Among x outputs ↔ ((L ≤ x) × (x < suc L + length later))) where
      abbrev all : List Gate
      all = less_gates p k ++ later

      size : suc z + length all ≡ suc L + length later
      size = omega (arith, length-append (less_gates p k) later, less_length p three odd k)

      all_read : (x : ℕ) → z ≤ x → x < suc z + length all → Read x all ⊎ Among x outputs
      all_read x l m = go (dec_lt x L)
        where
          go : Dec (x < L) → Read x all ⊎ Among x outputs
          go (yes a) = inl (some_left _ (less_gates p k) later (before_read x l a))
          go (no a) = inr ((are x).1 (omega arith, omega (arith, size)))

      less_network : Network (suc z) (z_node k ∷ []) all outputs
      less_network =
          over_one (z_node k) all outputs (λ x h. let l = (are x).0 h in (omega (arith, l.0), omega (arith, l.1, size)))
          (λ x l. all_read x l.0 l.1) (none_after (less_gates p k) later less_unrepeated none)
          (every_append _ (less_gates p k) later
          (factors_map (λ x l. ((l.0, omega (arith, l.1, size)), λ h. omega (arith, l.1, ((are x).0 h).0))) (less_gates p k) less_factors)
          (none_has _ later none))

    abbrev outputs_at : ℕ → List Node
    outputs_at j = less_and_equal j (less_node (base_tests p) k) (equal_node (base_tests p) k)

    pub order_network : (j : ℕ) → Network (suc z) (z_node k ∷ []) (order_tests (base_tests p) j k) (outputs_at j)
    order_network zero =
        less_network [] tt (outputs_at 0) (λ x. (⊎_elim (λ s. (omega arith, omega arith)) (λ n. absurd n), λ l. inl (omega (arith, l.0, l.1))))
    order_network (suc j) =
        less_network (equal_gates p k) (tt, tt) (outputs_at (suc j)) (λ x. (
          ⊎_elim (λ s. (omega arith, omega arith)) (⊎_elim (λ s. (omega arith, omega arith)) (λ n. absurd n)),
          λ l. go x l.0 l.1 (ℕ_discrete L x),
        ))
      where
        go : (x : ℕ) → L ≤ x → x < suc L + 1 → Dec (L ≡ x) → Among x (outputs_at (suc j))
        go x l m (yes s) = inl s
        go x l m (no s) = inr (inl (omega arith))
