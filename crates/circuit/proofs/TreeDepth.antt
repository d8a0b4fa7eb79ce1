-- The product tree is exactly clog of the breadth of its factors deep.
-- To replace the two least depths a ≤ b by suc b changes nothing: all other depths are at least b, so 2^b divides all that is compared.
-- Assumes nothing.
use mathlib.Core.Path.{◌≡◌, sym, ap, ◌∙◌}
use mathlib.Core.Logic.{◌↔◌}
use mathlib.Core.List.{List, [], ◌∷◌}
use Prim.Native.Nat.{ℕ, zero, suc, ◌+◌, ◌-◌, ◌*◌, ◌^◌, ◌≤◌, ◌<◌}
use native.Mathlib.Omega.{arith}
use native.Mathlib.Decide.{dec_le}
use native.Mathlib.Nat.{le_of_lt, lt_of_not-le, le_dest, lt_of_mul-lt-mul_right, mul-le-mul_right, max-eq_right}
use lib.ListN.{length}
use lib.Pow.{pow_pos, pow_mono, pow-lt, pow-add}
use Rattle.field.specs.Logarithm.{clog}
use Rattle.field.specs.Sum.{total}
use Rattle.field.proofs.Logarithm.{clog_unique}
use Rattle.circuit.specs.Every.{Every}
use Rattle.circuit.specs.Factors.{breadth}
use Rattle.circuit.specs.ProductTree.{multiply, product_tree}
use Rattle.circuit.specs.Segment.{Node}
use Rattle.circuit.proofs.Choosing.{first_of, second_of, rest_of, next, one_is, pair_is, next_same, next_length}
use Rattle.circuit.proofs.Rearranged.{same_breadth}

-- ---- powers of two

pow_back : (a d : ℕ) → 2 ^ a ≤ 2 ^ d → a ≤ d
pow_back a d h = go (dec_le a d)
  where
    go : Dec (a ≤ d) → a ≤ d
    go (yes l) = l
    go (no n) = omega (arith, pow-lt (lt_of_not-le n))

-- a power of two above another is a multiple of it
pow_multiple : {b d : ℕ} → b ≤ d → (q : ℕ) × (2 ^ d ≡ q * 2 ^ b)
pow_multiple {b} {d} h =
    let more = le_dest h in (2 ^ more.0, ap (λ (x : ℕ). 2 ^ x) (sym more.1) ∙ pow-add 2 b more.0 ∙ omega arith)

-- so is a sum of such powers
breadth_multiple : (b : ℕ) (factors : List Node) → Every (λ (f : Node). b ≤ f.depth) factors → (q : ℕ) × (breadth factors ≡ q * 2 ^ b)
unfolding total
breadth_multiple b [] h = (0, omega arith)
breadth_multiple b (f ∷ fs) h =
    let one = pow_multiple h.0 in
    let more = breadth_multiple b fs h.1 in
    (one.0 + more.0, omega (arith, one.1, more.1))

-- of multiples of w: where more than (q + 1) w is at most r w, (q + 2) w is too
round_up : (w q r x : ℕ) → 0 < x → x + (w + q * w) ≤ r * w → w + (w + q * w) ≤ r * w
round_up w q r x some h =
    let more : suc q < r = lt_of_mul-lt-mul_right w (omega arith) in
    omega (arith, mul-le-mul_right w more)

-- depths a ≤ b, beside a multiple of 2^b, fit under 2^d exactly where suc b does
join_step : (a b q d : ℕ) → a ≤ b → (2 ^ a + (2 ^ b + q * 2 ^ b) ≤ 2 ^ d) ↔ (2 ^ suc b + q * 2 ^ b ≤ 2 ^ d)
join_step a b q d h = (there (dec_le d b), λ fits. omega (arith, pow_mono h))
  where
    there : Dec (d ≤ b) → 2 ^ a + (2 ^ b + q * 2 ^ b) ≤ 2 ^ d → 2 ^ suc b + q * 2 ^ b ≤ 2 ^ d
    there (yes l) fits = omega (arith, pow_pos a, pow_mono l)
    there (no n) fits =
        let r = pow_multiple (le_of_lt (lt_of_not-le n)) in
        omega (arith, round_up (2 ^ b) q r.0 (2 ^ a) (pow_pos a) (omega (arith, r.1)), r.1)

-- ---- the tree

next_breadth : (n k : ℕ) (factors : List Node) → length factors ≡ suc (suc n)
    → breadth (next k factors) ≡ 2 ^ suc (second_of factors).depth + breadth (rest_of factors)
unfolding total
next_breadth n k factors e =
    same_breadth (next_same k factors) ∙ ap (λ (x : ℕ). 2 ^ suc x + breadth (rest_of factors)) (max-eq_right (pair_is n factors e).rising)

-- one product changes no comparison of the breadth with a power of two
next_fits : (n k : ℕ) (factors : List Node) → length factors ≡ suc (suc n)
    → (d : ℕ) → (breadth factors ≤ 2 ^ d) ↔ (breadth (next k factors) ≤ 2 ^ d)
unfolding total
next_fits n k factors e d =
    let pair = pair_is n factors e in
    let a = (first_of factors).depth in
    let b = (second_of factors).depth in
    let q = breadth_multiple b (rest_of factors) pair.low in
    let before : 2 ^ a + (2 ^ b + breadth (rest_of factors)) ≡ breadth factors = same_breadth pair.same in
    let after = next_breadth n k factors e in
    let step = join_step a b q.0 d pair.rising in (
      (λ fits. omega (arith, after, q.1, step.0 (omega (arith, before, q.1)))),
      (λ fits. omega (arith, before, q.1, step.1 (omega (arith, after, q.1)))),
    )

-- the depth is the least d with the breadth at most 2^d
multiply_fits : (n k : ℕ) (factors : List Node) → length factors ≡ suc n
    → (d : ℕ) → (breadth factors ≤ 2 ^ d) ↔ ((multiply n k factors).output.depth ≤ d)
unfolding multiply total
multiply_fits zero k factors e d =
    let sum : 2 ^ (first_of factors).depth + 0 ≡ breadth factors = same_breadth (one_is factors e) in
    ((λ fits. pow_back _ d (omega (arith, sum))), (λ deep. omega (arith, sum, pow_mono deep)))
multiply_fits (suc n) k factors e d =
    let step = next_fits n k factors e d in
    let later = multiply_fits n (suc k) (next k factors) (next_length n k factors e) d in
    ((λ fits. later.0 (step.0 fits)), (λ deep. step.1 (later.1 deep)))

pub multiply_depth : (n k : ℕ) (factors : List Node) → length factors ≡ suc n → (multiply n k factors).output.depth ≡ clog (breadth factors)
multiply_depth n k factors e = clog_unique _ _ (multiply_fits n k factors e)

pub tree_depth : (k : ℕ) (factors : List Node) → 1 ≤ length factors → (product_tree k factors).output.depth ≡ clog (breadth factors)
tree_depth k factors some = multiply_depth (length factors - 1) k factors (omega arith)
