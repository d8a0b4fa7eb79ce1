-- The powers of an order digit name only lower gates; those of odd exponents are products, those of even ones squares.
-- Assumes nothing.
use mathlib.Core.Path.{◌≡◌}
use mathlib.Core.Bool.{true}
use mathlib.Core.List.{[], ◌∷◌, ◌++◌, map}
use Prim.Native.Nat.{ℕ, zero, suc, ◌+◌, ◌-◌, ◌/◌, ◌%◌, ◌≤◌, ◌<◌}
use native.Mathlib.Omega.{arith}
use native.Mathlib.Decide.{ℕ_discrete}
use borrow.Author.Tests.{eq-eqb, ne_eqb}
use lib.ListN.{length}
use Rattle.field.specs.Bit.{bit}
use Rattle.field.specs.Half.{half}
use Rattle.field.specs.Polynomials.{every_second}
use Rattle.field.proofs.OrderConstants.{second_at}
use Rattle.circuit.specs.Count.{count, is_product, is_square}
use Rattle.circuit.specs.Table.{Head, all_fit}
use Rattle.circuit.proofs.Count.{count_append}
use Rattle.circuit.proofs.Fitting.{all_fit_lem, fit_append}
use Rattle.comparison.specs.OrderDigit.{ascending, low_exponents, next_odd, odd_exponents, low_power, power_of, powers}
use Rattle.comparison.proofs.Mapped.{fit_map}
use Rattle.comparison.proofs.LowPowers.{low_length, low_fits}
use Rattle.comparison.proofs.Powers.{odd_count}

-- ---- what they name

odd_fit : (head : Head) (p z : ℕ) → 3 ≤ p → p % 2 ≡ 1 → all_fit head (z + half p) (map (power_of z) (odd_exponents p)) ≡ true
odd_fit head p z three odd = fit_map head (power_of z) (odd_exponents p) (z + half p) (λ m l.
    let first = next_odd (half p) in
    let inside : m < half p / 2 = omega (arith, odd_count p odd) in
    let e = second_at ((p - first) / 2) first m (omega arith) in omega arith)

pub powers_fit : (head : Head) (p z : ℕ) → 3 ≤ p → p % 2 ≡ 1 → all_fit head (suc z) (powers p z) ≡ true
powers_fit head p z three odd =
    let low = map (power_of z) (low_exponents p) in
    let odds = map (power_of z) (odd_exponents p) in
    let after : suc z + length low ≡ z + half p = omega (arith, low_length (half p) z) in
    fit_append head (suc z) low _ (low_fits head (half p) z)
    (rw after (fit_append head (z + half p) odds _ (odd_fit head p z three odd)
    (all_fit_lem head (z + half p + length odds) (power_of z (p - 1) ∷ []) (omega arith))))

-- ---- how many are products and squares

-- how many odd numbers and how many even ones up to i there are, after one more
parity : (z i : ℕ) → 2 ≤ i → (bit (is_product (power_of z i)) + i / 2 ≡ (i + 1) / 2)
    × (bit (is_square (power_of z i)) + (i + 1) / 2 ≡ (i + 2) / 2)
parity z i two = go (ℕ_discrete (i % 2) 0)
  where
    go : Dec (i % 2 ≡ 0) → (bit (is_product (power_of z i)) + i / 2 ≡ (i + 1) / 2)
        × (bit (is_square (power_of z i)) + (i + 1) / 2 ≡ (i + 2) / 2)
    go (yes e) = rw (eq-eqb (low_power z (i / 2)) (low_power z ((i + 1) / 2)) (omega arith)) (omega arith)
    go (no n) = rw (ne_eqb (low_power z (i / 2)) (low_power z ((i + 1) / 2)) (λ q. omega arith)) (omega arith)

low_count : (z n i : ℕ) → 2 ≤ i
    → (count is_product (map (power_of z) (ascending n i)) + i / 2 ≡ (i + n) / 2)
    × (count is_square (map (power_of z) (ascending n i)) + (i + 1) / 2 ≡ (i + n + 1) / 2)
unfolding ascending count
low_count z zero i two = omega arith
low_count z (suc n) i two =
    let here = parity z i two in
    let later = low_count z n (suc i) (omega arith) in
    (omega (arith, here.0, later.0), omega (arith, here.1, later.1))

second_count : (z n i : ℕ) → 2 ≤ i → i % 2 ≡ 1
    → (count is_product (map (power_of z) (every_second n i)) ≡ n) × (count is_square (map (power_of z) (every_second n i)) ≡ 0)
unfolding every_second count
second_count z zero i two odd = omega arith
second_count z (suc n) i two odd =
    let here = parity z i two in
    let later = second_count z n (suc (suc i)) (omega arith) (omega arith) in
    (omega (arith, here.0, later.0), omega (arith, here.1, later.1))

pub powers_count : (p z : ℕ) → 3 ≤ p → p % 2 ≡ 1
    → (count is_product (powers p z) ≡ half p - 1) × (count is_square (powers p z) ≡ half p / 2 + 1)
unfolding count
powers_count p z three odd =
    let low = map (power_of z) (low_exponents p) in
    let odds = map (power_of z) (odd_exponents p) in
    let top = power_of z (p - 1) ∷ [] in
    let lows = low_count z (half p - 1) 2 (omega arith) in
    let others = second_count z ((p - next_odd (half p)) / 2) (next_odd (half p)) (omega arith) (omega arith) in
    let last = parity z (p - 1) (omega arith) in (
      omega (arith, count_append is_product low (odds ++ top), count_append is_product odds top, lows.0, others.0, last.0),
      omega (arith, count_append is_square low (odds ++ top), count_append is_square odds top, lows.1, others.1, last.1),
    )
