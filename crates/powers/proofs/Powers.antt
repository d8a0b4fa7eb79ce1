-- The depths of the powers of z, and what is left of the powers to write. Each power has a place of its own after z, so an entry set for one
-- leaves those of the others as they were.
-- Assumes nothing.
use Rattle.std.proofs.Common.{◌≡◌, sym, ◌∙◌, ◌⊎◌, inl, inr, ◌≢◌, lt_of_not-le, List, ◌∷◌, map, ℕ, suc, ◌+◌, ◌-◌, ◌*◌, ◌/◌, ◌%◌, ◌≤◌, ◌<◌, arith, add-one, length, get_or, set, get_or-set_same, get_or-set_other}
use Rattle.std.proofs.Math.Decide.{dec_le}
use Rattle.field.specs.Half.{half}
use Rattle.field.specs.Logarithm.{clog}
use Rattle.field.specs.Polynomials.{every_second}
use Rattle.field.proofs.Logarithm.{clog_small}
use Rattle.comparison.specs.OrderDigit.{ascending, power_of, power_count, power_gate}
use Rattle.comparison.proofs.Powers.{gate_low, gate_high}
use Rattle.powers.specs.Powers.{IsWritten, Deep}

-- two powers above (p-1)/2 at one place are one
high_same : (p i j : ℕ) → i ≤ p - 1 → j ≤ p - 1 → (i % 2 ≡ 1) ⊎ (i ≡ p - 1) → (j % 2 ≡ 1) ⊎ (j ≡ p - 1) → i / 2 ≡ j / 2 → i ≡ j
high_same p i j hi hj (inl a) (inl b) e = omega arith
high_same p i j hi hj (inl a) (inr b) e = omega arith
high_same p i j hi hj (inr a) (inl b) e = omega arith
high_same p i j hi hj (inr a) (inr b) e = omega arith

-- a place above those up to (p-1)/2 is that of an odd power or of z^(p-1)
above : (p i : ℕ) → half p < i → (i ≤ half p) ⊎ ((i % 2 ≡ 1) ⊎ (i ≡ p - 1)) → (i % 2 ≡ 1) ⊎ (i ≡ p - 1)
above p i h (inl low) = absurd (omega arith)
above p i h (inr high) = high

-- each power has a place of its own
place_same : (p i j : ℕ) → IsWritten p i → IsWritten p j → power_gate p 0 i ≡ power_gate p 0 j → i ≡ j
place_same p i j wi wj e = go (dec_le i (half p)) (dec_le j (half p))
  where
    go : Dec (i ≤ half p) → Dec (j ≤ half p) → i ≡ j
    go (yes a) (yes b) = omega (arith, gate_low p 0 i a, gate_low p 0 j b)
    go (yes a) (no b) = absurd (omega (arith, gate_low p 0 i a, gate_high p 0 j (lt_of_not-le b)))
    go (no a) (yes b) = absurd (omega (arith, gate_high p 0 i (lt_of_not-le a), gate_low p 0 j b))
    go (no a) (no b) =
        let x = lt_of_not-le a in
        let y = lt_of_not-le b in
        high_same p i j wi.1 wj.1 (above p i x wi.2) (above p j y wj.2)
        (omega (arith, gate_high p 0 i x, gate_high p 0 j y))

-- the last place is that of z^(p-1)
pub place_within : (p i : ℕ) → i ≤ p - 1 → power_gate p 0 i ≤ power_count p
place_within p i top = go (dec_le i (half p))
  where
    go : Dec (i ≤ half p) → power_gate p 0 i ≤ power_count p
    go (yes a) = omega (arith, gate_low p 0 i a)
    go (no a) = omega (arith, gate_high p 0 i (lt_of_not-le a))

-- ---- depths

-- z stands at place 0 and has depth 0
pub deep_start : (p : ℕ) (depths : List ℕ) → 3 ≤ p → get_or depths 0 0 ≡ 0 → Deep p depths 2
deep_start p depths three flat = record {
  known = λ i w l.
      let one : i ≡ 1 = omega arith in
      let e : power_gate p 0 1 ≡ 0 = gate_low p 0 1 (omega arith) ∙ omega arith in
      rw (one, e) (flat ∙ sym (clog_small 1 (omega arith)));
}

-- one power more
pub deep_step : (p i : ℕ) (depths : List ℕ) → IsWritten p i → power_gate p 0 i < length depths → Deep p depths i
    → Deep p (set depths (power_gate p 0 i) (clog i)) (i + 1)
deep_step p i depths w l d = record { known = λ j wj lj. go j wj lj (dec_le i j) }
  where
    go : (j : ℕ) → IsWritten p j → j < i + 1 → Dec (i ≤ j) → get_or (set depths (power_gate p 0 i) (clog i)) (power_gate p 0 j) 0 ≡ clog j
    go j wj lj (yes here) = let same : j ≡ i = omega arith in rw same (get_or-set_same depths (power_gate p 0 i) (clog i) 0 l)
    go j wj lj (no other) =
        let less = lt_of_not-le other in
        get_or-set_other depths (power_gate p 0 i) (power_gate p 0 j) (clog i) 0
        (λ same. absurd (omega (arith, place_same p i j w wj (omega arith)))) ∙ d.known j wj less

-- an exponent between, of which no power is written
pub deep_skip : (p i : ℕ) (depths : List ℕ) → half p < i → i % 2 ≢ 1 → i ≢ p - 1 → Deep p depths i → Deep p depths (i + 1)
deep_skip p i depths high even below d = record { known = λ j wj lj. go j wj lj (dec_le i j) }
  where
    go : (j : ℕ) → IsWritten p j → j < i + 1 → Dec (i ≤ j) → get_or depths (power_gate p 0 j) 0 ≡ clog j
    go j wj lj (yes here) = absurd (not j wj.2 (omega arith))
      where
        not : (j : ℕ) → (j ≤ half p) ⊎ ((j % 2 ≡ 1) ⊎ (j ≡ p - 1)) → j ≡ i → ⊥
        not j (inl low) same = omega arith
        not j (inr (inl odd)) same = even (omega arith)
        not j (inr (inr top)) same = below (omega arith)
    go j wj lj (no other) = d.known j wj (lt_of_not-le other)

-- the depth of a power up to (p-1)/2
deep_low : (p n j : ℕ) (depths : List ℕ) → 1 ≤ j → j ≤ half p → j < n → Deep p depths n → get_or depths (j - 1) 0 ≡ clog j
deep_low p n j depths one low l d =
    let e : power_gate p 0 j ≡ j - 1 = gate_low p 0 j low ∙ omega arith in
    rw (← e) (d.known j (one, omega arith, inl low) l)

-- the powers of the halves of i are lower, so their depths are known
pub deep_halves : (p i : ℕ) (depths : List ℕ) → p % 2 ≡ 1 → 2 ≤ i → i ≤ p - 1 → Deep p depths i
    → (get_or depths (i / 2 - 1) 0 ≡ clog (i / 2)) × (get_or depths ((i + 1) / 2 - 1) 0 ≡ clog ((i + 1) / 2))
deep_halves p i depths odd two top d = (
  deep_low p i (i / 2) depths (omega arith) (omega arith) (omega arith) d,
  deep_low p i ((i + 1) / 2) depths (omega arith) (omega arith) (omega arith) d,
)

-- ---- what is left to write

pub low_cons : (z h i : ℕ) → i ≤ h → map (power_of z) (ascending (h + 1 - i) i) ≡ power_of z i ∷ map (power_of z) (ascending (h + 1 - (i + 1)) (i + 1))
unfolding ascending
low_cons z h i l =
    let e : h + 1 - i ≡ suc (h + 1 - (i + 1)) = omega arith in
    rw (e, add-one i)

-- the odd numbers from 2k + 1 on, below 2h
abbrev pub odds : ℕ → ℕ → List ℕ
odds h k = every_second (h - k) (2 * k + 1)

pub odd_cons : (z h k : ℕ) → k < h → map (power_of z) (odds h k) ≡ power_of z (2 * k + 1) ∷ map (power_of z) (odds h (k + 1))
unfolding every_second
odd_cons z h k l =
    let n : h - k ≡ suc (h - (k + 1)) = omega arith in
    let two : 2 * (k + 1) + 1 ≡ suc (suc (2 * k + 1)) = omega arith in
    rw (n, two)
