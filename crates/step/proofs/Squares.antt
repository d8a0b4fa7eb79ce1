-- Squares one after the other: what they name, their values and their depths.
-- Assumes nothing.
use mathlib.Core.Path.{◌≡◌, refl, sym, ap, ◌∙◌}
use mathlib.Core.Bool.{true}
use mathlib.Core.List.{List}
use Prim.Native.Nat.{ℕ, zero, suc, ◌+◌, ◌*◌, ◌%◌, ◌^◌, ◌≤◌, ◌<◌}
use native.Mathlib.Omega.{arith}
use native.Mathlib.Nat.{pow-succ', add-zero, max-eq_right, le_refl}
use lib.ListN.{length}
use Rattle.field.proofs.Modular.{mod_same}
use Rattle.circuit.specs.Depth.{depths}
use Rattle.circuit.specs.Gate.{Mul}
use Rattle.circuit.specs.Meaning.{Algebra, Solves}
use Rattle.circuit.specs.Table.{Head, all_fit}
use Rattle.circuit.specs.Value.{values}
use Rattle.circuit.proofs.Fitting.{one_fits}
use Rattle.comparison.proofs.LowPowers.{power_mul}
use Rattle.step.specs.Powers.{squares_from}

pub squares_length : (n g : ℕ) → length (squares_from n g) ≡ n
unfolding squares_from
squares_length zero g = refl
squares_length (suc n) g = ap suc (squares_length n (suc g))

pub squares_fit : (head : Head) (n g : ℕ) → all_fit head (suc g) (squares_from n g) ≡ true
unfolding squares_from all_fit
squares_fit head zero g = refl
squares_fit head (suc n) g = rw (one_fits head (suc g) (Mul g g) (le_refl _, le_refl _)) (squares_fit head n (suc g))

-- over any entries each is the square of the one before it
square_step : {A : Type 0} (alg : Algebra A) (E : ℕ → A) (n g : ℕ) → Solves alg E (suc g) (squares_from n g) → (i : ℕ) → i < n
    → E (g + suc i) ≡ alg.mul (E (g + i)) (E (g + i))
unfolding squares_from
square_step alg E zero g s i l = absurd (omega arith)
square_step alg E (suc n) g s zero l = ap E (omega arith) ∙ s.0 ∙ ap (λ (t : ℕ). alg.mul (E t) (E t)) (omega arith)
square_step alg E (suc n) g s (suc i) l =
    ap E (omega arith) ∙ square_step alg E n (suc g) s.1 i (omega arith) ∙ ap (λ (t : ℕ). alg.mul (E t) (E t)) (omega arith)

pub square_value : (left right : List ℕ) (E : ℕ → ℕ) (p : ℕ) → 0 < p → (x n g step : ℕ) → Solves (values p left right) E (suc g) (squares_from n g)
    → E g % p ≡ (x ^ step) % p → (i : ℕ) → i ≤ n → E (g + i) % p ≡ (x ^ (step * 2 ^ i)) % p
square_value left right E p some x n g step s first zero l =
    mod_same p (ap E (add-zero g)) ∙ first ∙ mod_same p (ap (λ (m : ℕ). x ^ m) (omega arith))
square_value left right E p some x n g step s first (suc i) l =
    let half = square_value left right E p some x n g step s first i (omega arith) in
    mod_same p (square_step (values p left right) E n g s i l)
    ∙ power_mul left right p x some (step * 2 ^ i) (step * 2 ^ i) _ _ _ (omega (arith, ap (λ (t : ℕ). step * t) (pow-succ' 2 i))) half half

pub square_depth : (E : ℕ → ℕ) (n g d : ℕ) → Solves depths E (suc g) (squares_from n g) → E g ≡ d → (i : ℕ) → i ≤ n → E (g + i) ≡ d + i
square_depth E n g d s first zero l = ap E (add-zero g) ∙ first ∙ sym (add-zero d)
square_depth E n g d s first (suc i) l =
    let half = square_depth E n g d s first i (omega arith) in
    square_step depths E n g s i l ∙ omega (arith, max-eq_right {n = E (g + i)} {m = E (g + i)} (le_refl _))
