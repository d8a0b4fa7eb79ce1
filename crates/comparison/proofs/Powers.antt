-- The powers of an order digit: each is written at its place, names only powers below it, is the power that it stands for,
-- and is clog of its exponent deep.
-- Over any entries that solve the gates a power is the product of the powers of its halves (`low_step`, `odd_step`, `last_step`);
-- values and depths follow by halving the exponent.
-- Assumes nothing.
use mathlib.Core.Path.{◌≡◌, ap, ◌∙◌}
use mathlib.Core.Logic.{◌⊎◌, inl, inr}
use mathlib.Core.List.{List, [], ◌∷◌, ◌++◌, map}
use Prim.Native.Nat.{ℕ, suc, ◌+◌, ◌-◌, ◌/◌, ◌%◌, ◌^◌, ◌≤◌, ◌<◌}
use native.Mathlib.Omega.{arith}
use native.Mathlib.Decide.{dec_le}
use native.Mathlib.Nat.{lt_of_not-le}
use borrow.Author.Tests.{le-leb, lt-leb}
use lib.ListN.{length, length-map, length-append, get_or}
use Rattle.field.specs.Half.{half}
use Rattle.field.specs.Logarithm.{clog}
use Rattle.field.proofs.Modular.{mod_same}
use Rattle.field.proofs.OrderConstants.{length_second, second_at}
use Rattle.circuit.specs.Depth.{depths}
use Rattle.circuit.specs.Meaning.{Algebra, meaning, Solves}
use Rattle.circuit.specs.Value.{values}
use Rattle.circuit.proofs.Meaning.{solves_append}
use Rattle.comparison.specs.OrderDigit.{low_exponents, next_odd, odd_exponents, low_power, power_of, powers, power_count, power_gate}
use Rattle.comparison.proofs.LowPowers.{low_powers, low_length, power_mul, low_value, power_deep, low_depth}
use Rattle.comparison.proofs.Mapped.{solves_map}

-- the exponents that the terms ask for: odd ones up to p - 2, and p - 1
abbrev pub Asked : ℕ → ℕ → Type 0
Asked p i = ((i % 2 ≡ 1) × (i < p - 1)) ⊎ (i ≡ p - 1)

pub asked_top : (p i : ℕ) → Asked p i → i ≤ p - 1
asked_top p i (inl o) = omega (arith, o.1)
asked_top p i (inr e) = omega arith

-- their halves are powers up to (p-1)/2
halves_low : (p i : ℕ) → p % 2 ≡ 1 → Asked p i → (i + 1) / 2 ≤ half p
halves_low p i odd (inl o) = omega (arith, o.0, o.1)
halves_low p i odd (inr e) = omega arith

-- ---- where they stand

pub gate_low : (p z i : ℕ) → i ≤ half p → power_gate p z i ≡ low_power z i
unfolding power_gate
gate_low p z i l = rw (le-leb i (half p) l, power_gate)

pub gate_high : (p z i : ℕ) → half p < i → power_gate p z i ≡ z + half p + (i / 2 - (half p + 1) / 2)
unfolding power_gate
gate_high p z i l = rw (lt-leb i (half p) l, power_gate)

-- as many as half of (p-1)/2
pub odd_count : (p : ℕ) → p % 2 ≡ 1 → length (odd_exponents p) ≡ half p / 2
odd_count p odd = length_second _ _ ∙ omega arith

pub odd_length : (p z : ℕ) → p % 2 ≡ 1 → length (map (power_of z) (odd_exponents p)) ≡ half p / 2
odd_length p z odd = length-map (odd_exponents p) (power_of z) ∙ odd_count p odd

pub powers_length : (p z : ℕ) → 3 ≤ p → p % 2 ≡ 1 → length (powers p z) ≡ power_count p
powers_length p z three odd =
    length-append (map (power_of z) (low_exponents p)) _
    ∙ omega (arith, low_length (half p) z, odd_length p z odd, length-append (map (power_of z) (odd_exponents p)) (power_of z (p - 1) ∷ []))

-- ---- what they are, over any entries

module _ {A : Type 0} (alg : Algebra A) (E : ℕ → A) (p z : ℕ) (three : 3 ≤ p) (odd : p % 2 ≡ 1)
    (h : Solves alg E (suc z) (powers p z)) where
  -- the product of the powers of the halves
  abbrev halved : ℕ → A
  halved i = alg.mul (E (low_power z (i / 2))) (E (low_power z ((i + 1) / 2)))

  after_low : Solves alg E (z + half p) (map (power_of z) (odd_exponents p) ++ (power_of z (p - 1) ∷ []))
  after_low =
      let e : suc z + length (map (power_of z) (low_exponents p)) ≡ z + half p = omega (arith, low_length (half p) z) in
      rw e at (solves_append alg E (map (power_of z) (low_exponents p)) _ (suc z) h).1

  pub below_half : Solves alg E (suc z) (low_powers (half p) z)
  below_half = (solves_append alg E (map (power_of z) (low_exponents p)) _ (suc z) h).0

  odd_step : (i : ℕ) → i % 2 ≡ 1 → half p < i → i < p - 1 → E (power_gate p z i) ≡ halved i
  odd_step i o l u =
      let first = next_odd (half p) in
      let m = (i - first) / 2 in
      let place : m < length (odd_exponents p) = omega (arith, odd_count p odd) in
      let e : get_or (odd_exponents p) m 0 ≡ i = second_at ((p - first) / 2) first m (omega arith) ∙ omega arith in
      ap E (gate_high p z i l ∙ omega arith)
      ∙ solves_map alg E (power_of z) (odd_exponents p) (z + half p)
      (solves_append alg E (map (power_of z) (odd_exponents p)) _ (z + half p) after_low).0 m place
      ∙ ap (λ (x : ℕ). meaning alg E (power_of z x)) e

  last_step : E (power_gate p z (p - 1)) ≡ halved (p - 1)
  last_step =
      ap E (gate_high p z (p - 1) (omega arith) ∙ omega (arith, odd_length p z odd))
      ∙ (solves_append alg E (map (power_of z) (odd_exponents p)) _ (z + half p) after_low).1.0

  -- those above (p-1)/2 that are written
  high_step : (i : ℕ) → Asked p i → half p < i → E (power_gate p z i) ≡ halved i
  high_step i (inl o) l = odd_step i o.0 l o.1
  high_step i (inr e) l = rw e last_step

-- ---- values

module _ (left right : List ℕ) (E : ℕ → ℕ) (p z : ℕ) (three : 3 ≤ p) (odd : p % 2 ≡ 1)
    (h : Solves (values p left right) E (suc z) (powers p z)) where
  low : (i : ℕ) → 1 ≤ i → i ≤ half p → E (low_power z i) % p ≡ (E z ^ i) % p
  low = low_value left right E p (omega arith) (half p) z (below_half (values p left right) E p z three odd h)

  pub power_value : (i : ℕ) → 1 ≤ i → Asked p i → E (power_gate p z i) % p ≡ (E z ^ i) % p
  power_value i one asked = go (dec_le i (half p))
    where
      go : Dec (i ≤ half p) → E (power_gate p z i) % p ≡ (E z ^ i) % p
      go (yes l) = rw (gate_low p z i l) (low i one l)
      go (no n) =
          let top : i ≤ p - 1 = asked_top p i asked in
          mod_same p (high_step (values p left right) E p z three odd h i asked (lt_of_not-le n))
          ∙ power_mul left right p (E z) (omega arith) (i / 2) ((i + 1) / 2) i _ _ (omega arith)
          (low (i / 2) (omega arith) (omega arith)) (low ((i + 1) / 2) (omega arith) (halves_low p i odd asked))

-- ---- depths

module _ (E : ℕ → ℕ) (p z : ℕ) (three : 3 ≤ p) (odd : p % 2 ≡ 1) (h : Solves depths E (suc z) (powers p z)) (flat : E z ≡ 0) where
  low_deep : (i : ℕ) → 1 ≤ i → i ≤ half p → E (low_power z i) ≡ clog i
  low_deep = low_depth E (half p) z (below_half depths E p z three odd h) flat

  pub power_depth : (i : ℕ) → 1 ≤ i → Asked p i → E (power_gate p z i) ≡ clog i
  power_depth i one asked = go (dec_le i (half p))
    where
      go : Dec (i ≤ half p) → E (power_gate p z i) ≡ clog i
      go (yes l) = rw (gate_low p z i l) (low_deep i one l)
      go (no n) =
          let top : i ≤ p - 1 = asked_top p i asked in
          high_step depths E p z three odd h i asked (lt_of_not-le n)
          ∙ power_deep i _ _ (omega arith)
          (low_deep (i / 2) (omega arith) (omega arith)) (low_deep ((i + 1) / 2) (omega arith) (halves_low p i odd asked))
