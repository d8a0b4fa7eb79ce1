-- The terms of an order digit: over entries that solve them their sum is that of the constants times the powers, and as deep as the deepest power.
-- What is special to them is the value of a term and that it fits; the rest is so of sums of any gates.
-- Assumes nothing.
use mathlib.Core.Path.{◌≡◌, refl, ap, ap₂, ◌∙◌}
use mathlib.Core.Bool.{true}
use mathlib.Core.List.{List, [], ◌∷◌, map}
use Prim.Native.Nat.{ℕ, ◌-◌, ◌*◌, ◌%◌, ◌^◌, ◌≤◌, ◌<◌}
use native.Mathlib.Omega.{arith}
use native.Mathlib.Nat.{mod-mod, mul_comm}
use lib.ListN.{length, length-map}
use Rattle.field.specs.Polynomials.{order_constant, order_constants}
use Rattle.field.specs.Sum.{sum, total}
use Rattle.field.proofs.Modular.{mod_same, mul_cong, mul_mod_is, residue_below}
use Rattle.field.proofs.Polynomials.{constant_below}
use Rattle.circuit.specs.Constant.{code}
use Rattle.circuit.specs.Count.{count, is_product, is_square}
use Rattle.circuit.specs.Depth.{depths}
use Rattle.circuit.specs.Every.{Every}
use Rattle.circuit.specs.Gate.{Gate}
use Rattle.circuit.specs.Meaning.{meaning, Solves}
use Rattle.circuit.specs.OldConstants.{old_gate}
use Rattle.circuit.specs.Sums.{sum_from, sum_gate, largest}
use Rattle.circuit.specs.Table.{Head, fits, all_fit}
use Rattle.circuit.specs.Value.{values}
use Rattle.circuit.proofs.Constant.{code_fits, code_is}
use Rattle.circuit.proofs.Count.{count_none}
use Rattle.circuit.proofs.Every.{every_map, every_made}
use Rattle.circuit.proofs.Fitting.{one_fits}
use Rattle.circuit.proofs.OldConstants.{sum_old, old_constant}
use Rattle.circuit.proofs.Sums.{sum_count, sum_fits, total_cong, sum_value_map, sum_below_map, sum_depth_map}
use Rattle.comparison.specs.DigitPromises.{old_term, OldTerms, WrittenConstants}
use Rattle.comparison.specs.OrderDigit.{power_gate, term, terms}

-- ---- values

module _ (left right : List ℕ) (E : ℕ → ℕ) (p z x : ℕ) (two : 2 ≤ p) where
  abbrev summand : ℕ → ℕ
  summand i = order_constant p i * x ^ i

  -- z^i is the i-th power of x
  abbrev IsPower : ℕ → Type 0
  IsPower i = E (power_gate p z i) % p ≡ (x ^ i) % p

  term_value : (i : ℕ) → IsPower i → meaning (values p left right) E (term p z i) % p ≡ summand i % p
  term_value i power =
      let c = order_constant p i in
      mod_same p (mul_mod_is p _ _ (omega arith)) ∙ mod-mod _ p
      ∙ mul_cong p _ (x ^ i) _ c power (mod_same p (code_is p c (constant_below p i two)))
      ∙ mod_same p (mul_comm (x ^ i) c)

  pub terms_value : (k : ℕ) (is : List ℕ) → 1 ≤ length is → Every IsPower is
      → Solves (values p left right) E k (terms p z k is) → E (sum_gate k (length is)) % p ≡ total (map summand is) % p
  terms_value k is some powers h =
      sum_value_map (term p z) p left right E k is (omega arith) some h ∙ total_cong p _ summand is (every_map term_value is powers)

  pub terms_below : (k : ℕ) (is : List ℕ) → 1 ≤ length is → Solves (values p left right) E k (terms p z k is)
      → E (sum_gate k (length is)) < p
  terms_below k [] some h = absurd (omega arith)
  terms_below k (i ∷ is) some h =
      sum_below_map (term p z) p left right E k (i ∷ is) (omega arith) some h (rw h.0 (residue_below p _ (omega arith)))

-- ---- the constants that they had

old_each : (p z : ℕ) → 2 ≤ p → (is : List ℕ) → map (old_gate p) (map (term p z) is) ≡ map (old_term p z) is
old_each p z two [] = refl
old_each p z two (i ∷ is) =
    ap₂ (λ (g : Gate) (gs : List Gate). g ∷ gs) (old_constant p (power_gate p z i) (order_constant p i) (constant_below p i two)) (old_each p z two is)

pub old_terms : OldTerms
old_terms p z k is two = sum_old p k (map (term p z) is) ∙ ap (sum_from k) (old_each p z two is)

pub written_constants : WrittenConstants
unfolding order_constants sum code
written_constants = (refl, refl)

-- ---- depths

-- a term is as deep as its power
pub terms_depth : (E : ℕ → ℕ) (p z k : ℕ) (is : List ℕ) → 1 ≤ length is → Solves depths E k (terms p z k is)
    → E (sum_gate k (length is)) ≡ largest (map (λ i. E (power_gate p z i)) is)
terms_depth E p z k is some h = sum_depth_map (term p z) E k is some h

-- ---- how many gates they are; none is a product

pub terms_count : (p z k : ℕ) (is : List ℕ)
    → (length (terms p z k is) ≡ 2 * length is - 1) × (count is_product (terms p z k is) ≡ 0) × (count is_square (terms p z k is) ≡ 0)
terms_count p z k is =
    let t = term p z in
    let counts = sum_count k (map t is) in
    (omega (arith, counts.0, length-map is t), counts.1 ∙ count_none is_product t (λ i. refl) is, counts.2 ∙ count_none is_square t (λ i. refl) is)

-- ---- what they name

module _ (head : Head) (p z : ℕ) (two : 2 ≤ p) (odd : p % 2 ≡ 1) (prime : head.prime ≡ p) where
  term_fits : (k i : ℕ) → power_gate p z i < k → fits head k (term p z i) ≡ true
  term_fits k i l =
      one_fits head k (term p z i) (l, rw prime (code_fits p (order_constant p i) (constant_below p i two) odd))

  pub terms_fit : (k : ℕ) (is : List ℕ) → Every (λ i. power_gate p z i < k) is → all_fit head k (terms p z k is) ≡ true
  terms_fit k is low = sum_fits head k (map (term p z) is) (every_made _ (term p z) is (every_map (term_fits k) is low))
