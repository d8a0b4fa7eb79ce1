-- The powers z^2 to z^h that follow z, for any h: each names only powers below it, is the power that it stands for, and is clog of its exponent deep.
-- Over any entries that solve the gates a power is the product of the powers of its halves; values and depths follow by halving the exponent.
-- Assumes nothing.
use mathlib.Core.Path.{◌≡◌, sym, ap, ◌∙◌}
use mathlib.Core.Bool.{true}
use mathlib.Core.List.{List, map}
use Prim.Native.Nat.{ℕ, zero, suc, ◌+◌, ◌-◌, ◌*◌, ◌/◌, ◌%◌, ◌^◌, ◌≤◌, ◌<◌}
use native.Mathlib.Omega.{arith}
use native.Mathlib.Nat.{mod-mod, pow-suc, pow-zero, one-mul, le_refl}
use lib.ListN.{length, length-map, get_or}
use lib.Pow.{pow-add}
use Rattle.field.specs.Logarithm.{clog}
use Rattle.field.proofs.Logarithm.{clog_half, clog_small, clog_mono}
use Rattle.field.proofs.Modular.{mod_same, mul_cong, mul_mod_is}
use Rattle.circuit.specs.Depth.{depths}
use Rattle.circuit.specs.Gate.{Gate}
use Rattle.circuit.specs.Meaning.{Algebra, meaning, Solves}
use Rattle.circuit.specs.Table.{Head, all_fit}
use Rattle.circuit.specs.Value.{values}
use Rattle.comparison.specs.OrderDigit.{ascending, low_power, power_of}
use Rattle.comparison.proofs.Mapped.{solves_map, fit_map, length_ascending, ascending_at}

abbrev pub low_powers : ℕ → ℕ → List Gate
low_powers h z = map (power_of z) (ascending (h - 1) 2)

pub low_length : (h z : ℕ) → length (low_powers h z) ≡ h - 1
low_length h z = length-map (ascending (h - 1) 2) (power_of z) ∙ length_ascending (h - 1) 2

-- ---- what they name

pub low_fits : (head : Head) (h z : ℕ) → all_fit head (suc z) (low_powers h z) ≡ true
low_fits head h z =
    fit_map head (power_of z) (ascending (h - 1) 2) (suc z)
    (λ m l.
    let short : m < h - 1 = omega (arith, length_ascending (h - 1) 2) in
    rw (ascending_at (h - 1) 2 m short) (omega arith))

-- ---- what they are, over any entries

pub low_step : {A : Type 0} (alg : Algebra A) (E : ℕ → A) (h z : ℕ) → Solves alg E (suc z) (low_powers h z) → (i : ℕ) → 2 ≤ i → i ≤ h
    → E (low_power z i) ≡ alg.mul (E (low_power z (i / 2))) (E (low_power z ((i + 1) / 2)))
low_step alg E h z s i two l =
    let m = i - 2 in
    let place : m < length (ascending (h - 1) 2) = omega (arith, length_ascending (h - 1) 2) in
    let e : get_or (ascending (h - 1) 2) m 0 ≡ i = ascending_at (h - 1) 2 m (omega arith) ∙ omega arith in
    ap E (omega arith)
    ∙ solves_map alg E (power_of z) (ascending (h - 1) 2) (suc z) s m place
    ∙ ap (λ (x : ℕ). meaning alg E (power_of z x)) e

-- ---- values

-- a product of two powers of x
pub power_mul : (left right : List ℕ) (p x : ℕ) → 0 < p → (a b i u v : ℕ) → a + b ≡ i → u % p ≡ (x ^ a) % p → v % p ≡ (x ^ b) % p
    → (values p left right).mul u v % p ≡ (x ^ i) % p
power_mul left right p x some a b i u v e hu hv =
    mod_same p (mul_mod_is p u v some) ∙ mod-mod (u * v) p
    ∙ mul_cong p u (x ^ a) v (x ^ b) hu hv
    ∙ mod_same p (sym (pow-add x a b) ∙ ap (λ (n : ℕ). x ^ n) e)

module _ (left right : List ℕ) (E : ℕ → ℕ) (p : ℕ) (some : 0 < p) (h z : ℕ) (s : Solves (values p left right) E (suc z) (low_powers h z)) where
  within_value : (most i : ℕ) → i ≤ most → 1 ≤ i → i ≤ h → E (low_power z i) % p ≡ (E z ^ i) % p
  within_value zero i m one l = absurd (omega arith)
  within_value (suc most) zero m one l = absurd (omega arith)
  within_value (suc most) (suc zero) m one l =
      mod_same p (ap E (omega arith) ∙ sym (pow-suc (E z) 0 ∙ ap (λ (n : ℕ). n * E z) (pow-zero (E z)) ∙ one-mul (E z)))
  within_value (suc most) (suc (suc j)) m one l =
      let i = suc (suc j) in
      mod_same p (low_step (values p left right) E h z s i (omega arith) l)
      ∙ power_mul left right p (E z) some (i / 2) ((i + 1) / 2) i _ _ (omega arith)
      (within_value most (i / 2) (omega arith) (omega arith) (omega arith))
      (within_value most ((i + 1) / 2) (omega arith) (omega arith) (omega arith))

  pub low_value : (i : ℕ) → 1 ≤ i → i ≤ h → E (low_power z i) % p ≡ (E z ^ i) % p
  low_value i one l = within_value i i (le_refl i) one l

-- ---- depths

-- a product of the powers of the halves
pub power_deep : (i x y : ℕ) → 2 ≤ i → x ≡ clog (i / 2) → y ≡ clog ((i + 1) / 2) → depths.mul x y ≡ clog i
power_deep i x y two hx hy =
    let shallow : clog (i / 2) ≤ clog ((i + 1) / 2) = clog_mono (omega arith) in
    omega (arith, clog_half i two)

module _ (E : ℕ → ℕ) (h z : ℕ) (s : Solves depths E (suc z) (low_powers h z)) (flat : E z ≡ 0) where
  within_depth : (most i : ℕ) → i ≤ most → 1 ≤ i → i ≤ h → E (low_power z i) ≡ clog i
  within_depth zero i m one l = absurd (omega arith)
  within_depth (suc most) zero m one l = absurd (omega arith)
  within_depth (suc most) (suc zero) m one l = ap E (omega arith) ∙ flat ∙ sym (clog_small 1 (omega arith))
  within_depth (suc most) (suc (suc j)) m one l =
      let i = suc (suc j) in
      low_step depths E h z s i (omega arith) l
      ∙ power_deep i _ _ (omega arith)
      (within_depth most (i / 2) (omega arith) (omega arith) (omega arith))
      (within_depth most ((i + 1) / 2) (omega arith) (omega arith) (omega arith))

  pub low_depth : (i : ℕ) → 1 ≤ i → i ≤ h → E (low_power z i) ≡ clog i
  low_depth i one l = within_depth i i (le_refl i) one l
