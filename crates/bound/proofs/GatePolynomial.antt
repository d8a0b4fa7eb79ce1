-- The polynomial of a gate: its value at x is the gate's where the left slot holds x, and its degree is at most 2^depth.
-- Both are relations between two meanings that every kind keeps: the operations modulo p are sum, difference and product, and only a product adds degrees.
-- Assumes nothing.
use mathlib.Core.Path.{◌≡◌, refl, sym, ap, ◌∙◌}
use mathlib.Core.List.{List, [], ◌∷◌}
use Prim.Native.Nat.{ℕ, zero, suc, ◌+◌, ◌-◌, ◌*◌, ◌%◌, ◌^◌, ◌≤◌, ◌<◌, max, zero-le}
use native.Mathlib.Omega.{arith}
use native.Mathlib.Nat.{zero-max, le-max_left, le-max_right, mod-mod, mul_comm}
use lib.ListN.{length-map}
use lib.Pow.{pow_mono}
use Rattle.field.specs.Modular.{sub_mod}
use Rattle.field.proofs.Modular.{mod_same, add_cong, mul_cong, add_mod_is, sub_mod_is, mul_mod_is}
use Rattle.circuit.specs.Constant.{constant}
use Rattle.circuit.specs.Depth.{depths}
use Rattle.circuit.specs.Gate.{Gate, Left, Right, Add, Sub, Scale, Flip, Mul}
use Rattle.circuit.specs.Meaning.{meaning}
use Rattle.circuit.specs.Value.{values}
use Rattle.circuit.proofs.Related.{related}
use Rattle.bound.specs.GatePolynomial.{polynomials}
use Rattle.bound.specs.Polynomial.{evaluate, degree, constant_polynomial, sum_polynomial, multiple_polynomial, difference_polynomial, product_polynomial}
use Rattle.bound.specs.PolynomialPromises.{GatesArePolynomials, DegreesByDepth}
use Rattle.bound.proofs.Polynomial.{sum_value, multiple_value, product_value, sum_length, product_degree}

-- ---- values

module _ (p x : ℕ) where
  abbrev HasValue : List ℕ → ℕ → Type 0
  HasValue q v = evaluate q x % p ≡ v % p

  -- a polynomial of value k, a gate whose value is the remainder of n
  reduced : {m k v : ℕ} (n : ℕ) → m ≡ k → k % p ≡ n % p → v ≡ n % p → m % p ≡ v % p
  reduced n e h r = mod_same p e ∙ h ∙ sym (mod-mod n p) ∙ mod_same p (sym r)

  module _ (right : List ℕ) (some : 0 < p) where
    slot_value : (a : ℕ) → HasValue ((polynomials p right).left a) ((values p (x ∷ []) right).left a)
    unfolding evaluate
    slot_value zero = mod_same p (omega arith)
    slot_value (suc a) = refl

    difference_value : (q r : List ℕ) (u v : ℕ) → HasValue q u → HasValue r v → HasValue (difference_polynomial p q r) (sub_mod p u v)
    difference_value q r u v h k =
        reduced (u + (p - 1) * v) (sum_value q (multiple_polynomial (p - 1) r) x ∙ ap (λ (t : ℕ). evaluate q x + t) (multiple_value (p - 1) r x))
        (add_cong p _ _ _ _ h (mul_cong p (p - 1) _ _ _ refl k)) (sub_mod_is p u v some)

    value_kept : (E : ℕ → List ℕ) (F : ℕ → ℕ) → ((i : ℕ) → HasValue (E i) (F i)) → (g : Gate)
        → HasValue (meaning (polynomials p right) E g) (meaning (values p (x ∷ []) right) F g)
    unfolding evaluate
    value_kept E F h (Left a) = slot_value a
    value_kept E F h (Right a) = mod_same p (omega arith)
    value_kept E F h (Add a b) =
        reduced (F a + F b) (sum_value (E a) (E b) x) (add_cong p _ _ _ _ (h a) (h b)) (add_mod_is p (F a) (F b) some)
    value_kept E F h (Sub a b) = difference_value (E a) (E b) (F a) (F b) (h a) (h b)
    value_kept E F h (Scale a c) =
        let n = constant p c in
        reduced (F a * n) (multiple_value n (E a) x ∙ mul_comm n _) (mul_cong p _ _ n n (h a) refl) (mul_mod_is p (F a) n some)
    value_kept E F h (Flip a) = difference_value (constant_polynomial 1) (E a) 1 (F a) (mod_same p (omega arith)) (h a)
    value_kept E F h (Mul a b) =
        reduced (F a * F b) (product_value (E a) (E b) x) (mul_cong p _ _ _ _ (h a) (h b)) (mul_mod_is p (F a) (F b) some)

pub gates_are_polynomials : GatesArePolynomials
unfolding evaluate
gates_are_polynomials p x right gates k some =
    related (polynomials p right) (values p (x ∷ []) right) (HasValue p x) refl (value_kept p x right some) gates k

-- ---- degrees

-- of a gate of depth d
abbrev Low : List ℕ → ℕ → Type 0
Low q d = degree q ≤ 2 ^ d

slot_low : (p : ℕ) (right : List ℕ) (a : ℕ) → Low ((polynomials p right).left a) 0
slot_low p right zero = omega arith
slot_low p right (suc a) = zero-le

sum_low : (q r : List ℕ) (d e : ℕ) → Low q d → Low r e → Low (sum_polynomial q r) (max d e)
sum_low q r d e h k =
    omega (arith, sum_length q r, pow_mono (le-max_left d e), pow_mono (le-max_right d e))

multiple_low : (a : ℕ) (q : List ℕ) (d : ℕ) → Low q d → Low (multiple_polynomial a q) d
multiple_low a q d h = omega (arith, length-map q (λ (c : ℕ). a * c))

difference_low : (p : ℕ) (q r : List ℕ) (d e : ℕ) → Low q d → Low r e → Low (difference_polynomial p q r) (max d e)
difference_low p q r d e h k = sum_low q (multiple_polynomial (p - 1) r) d e h (multiple_low (p - 1) r e k)

product_low : (q r : List ℕ) (d e : ℕ) → Low q d → Low r e → Low (product_polynomial q r) (suc (max d e))
product_low q r d e h k =
    omega (arith, product_degree q r, pow_mono (le-max_left d e), pow_mono (le-max_right d e))

degree_kept : (p : ℕ) (right : List ℕ) (E : ℕ → List ℕ) (F : ℕ → ℕ) → ((i : ℕ) → Low (E i) (F i)) → (g : Gate)
    → Low (meaning (polynomials p right) E g) (meaning depths F g)
degree_kept p right E F h (Left a) = slot_low p right a
degree_kept p right E F h (Right a) = zero-le
degree_kept p right E F h (Add a b) = sum_low (E a) (E b) (F a) (F b) (h a) (h b)
degree_kept p right E F h (Sub a b) = difference_low p (E a) (E b) (F a) (F b) (h a) (h b)
degree_kept p right E F h (Scale a c) = multiple_low (constant p c) (E a) (F a) (h a)
degree_kept p right E F h (Flip a) = rw zero-max at (difference_low p (constant_polynomial 1) (E a) 0 (F a) zero-le (h a))
degree_kept p right E F h (Mul a b) = product_low (E a) (E b) (F a) (F b) (h a) (h b)

pub degrees_by_depth : DegreesByDepth
degrees_by_depth p right gates k = related (polynomials p right) depths Low zero-le (degree_kept p right) gates k
