-- The terms of an order digit: the constants of a card as they are read, what is left of the terms to write, and the depth of their sum.
-- Assumes nothing.
use Rattle.std.proofs.Common.{◌≡◌, ap, ◌∙◌, List, [], ◌∷◌, ◌++◌, map, ℕ, suc, ◌+◌, ◌-◌, ◌*◌, ◌/◌, ◌≤◌, ◌<◌, max, arith, lt_of_not-le, get_or}
use Rattle.std.proofs.Math.Decide.{dec_le}
use Rattle.std.proofs.Math.Nat.{max-eq_right}
use Rattle.field.specs.Half.{half}
use Rattle.field.specs.Logarithm.{clog}
use Rattle.field.specs.Polynomials.{every_second, order_exponents, order_constant}
use Rattle.field.proofs.Logarithm.{clog_mono}
use Rattle.field.proofs.Polynomials.{constant_below}
use Rattle.circuit.specs.Constant.{code, signed, bits_of}
use Rattle.circuit.specs.Gate.{Gate, Scale, Add}
use Rattle.circuit.specs.Sums.{later_sum}
use Rattle.circuit.proofs.Constant.{bits_code}
use Rattle.comparison.specs.OrderDigit.{power_gate, term, terms}
use Rattle.comparison.proofs.Powers.{gate_low, gate_high}
use Rattle.writer.specs.Modulus.{Modulus}
use Rattle.powers.specs.Prepared.{Constants}
use Rattle.powers.proofs.Constants.{bits_odd, bits_top}

-- ---- the constants, as they are read from a list that begins with their bits

-- the bits of a constant are read as it
read_as : (p : ℕ) → Modulus p → (b i : ℕ) → b ≡ bits_of p (order_constant p i) → signed b ≡ code p (order_constant p i)
read_as p modulus b i e =
    ap signed e ∙ (bits_code p (order_constant p i) modulus.1 (omega (arith, modulus)) (constant_below p i (omega (arith, modulus)))).1

module _ (p : ℕ) (modulus : Modulus p) (list : List ℕ) (c : Constants p list) where
  pub constant_odd : (m : ℕ) → m < half p → signed (get_or list m 0) ≡ code p (order_constant p (2 * m + 1))
  constant_odd m l = read_as p modulus (get_or list m 0) (2 * m + 1) (bits_odd p list c m l)

  pub constant_top : signed (get_or list (half p) 0) ≡ code p (order_constant p (p - 1))
  constant_top = read_as p modulus (get_or list (half p) 0) (p - 1) (bits_top p list c)

-- ---- what is left to write

pub place_from : (p z i : ℕ) → power_gate p z i ≡ z + power_gate p 0 i
place_from p z i = go (dec_le i (half p))
  where
    go : Dec (i ≤ half p) → power_gate p z i ≡ z + power_gate p 0 i
    go (yes l) = omega (arith, gate_low p z i l, gate_low p 0 i l)
    go (no n) = omega (arith, gate_high p z i (lt_of_not-le n), gate_high p 0 i (lt_of_not-le n))

-- the exponents after those below i: the odd ones from i on, and p - 1
abbrev exponents_from : ℕ → ℕ → List ℕ
exponents_from p i = every_second ((p - i) / 2) i ++ ((p - 1) ∷ [])

-- the terms of the exponents from i on: from gate number k on, over the gate of the sum so far
abbrev pub terms_from : ℕ → ℕ → ℕ → ℕ → ℕ → List Gate
terms_from p z k sum i = later_sum k sum (map (term p z) (exponents_from p i))

pub terms_first : (p z k : ℕ) → 3 ≤ p → terms p z k (order_exponents p) ≡ Scale z (code p (order_constant p 1)) ∷ terms_from p z (k + 1) k 3
unfolding order_exponents every_second
terms_first p z k three =
    let e : (p - 1) / 2 ≡ suc ((p - 3) / 2) = omega arith in
    let next : k + 1 ≡ suc k = omega arith in
    let gate : power_gate p z 1 ≡ z = gate_low p z 1 (omega arith) ∙ omega arith in
    rw (e, next, gate)

pub later_cons : (p z k sum i : ℕ) → i < p - 1
    → terms_from p z k sum i ≡ Scale (z + power_gate p 0 i) (code p (order_constant p i)) ∷ Add sum k ∷ terms_from p z (k + 2) (k + 1) (i + 2)
unfolding later_sum every_second
later_cons p z k sum i l =
    let e : (p - i) / 2 ≡ suc ((p - (i + 2)) / 2) = omega arith in
    let two : i + 2 ≡ suc (suc i) = omega arith in
    let next : k + 1 ≡ suc k = omega arith in
    let after : k + 2 ≡ suc (suc k) = omega arith in
    rw (e, two, next, after, place_from p z i)

pub later_top : (p z k sum i : ℕ) → p - 1 ≤ i
    → terms_from p z k sum i ≡ Scale (z + power_gate p 0 (p - 1)) (code p (order_constant p (p - 1))) ∷ Add sum k ∷ []
unfolding later_sum every_second
later_top p z k sum i l =
    let e : (p - i) / 2 ≡ 0 = omega arith in
    rw (e, place_from p z (p - 1))

-- ---- the depth of their sum

pub deeper_power : (i j a b : ℕ) → i ≤ j → a ≡ clog i → b ≡ clog j → max a b ≡ clog j
deeper_power i j a b l ha hb =
    let h : clog i ≤ clog j = clog_mono l in
    rw (ha, hb) (max-eq_right h)
