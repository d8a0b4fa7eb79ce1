-- L of a step digit, for every odd p and every step size from 1 to (p-1)/2: the sum is there, it is the last of its gates, and as deep as z^k
-- and the levels together; its value is the order polynomial of z; the gates keep the rules, and are as many wherever they are written.
-- Put together from the powers and the pieces.
-- Assumes nothing.
use mathlib.Core.Path.{◌≡◌, refl, sym, ap, ap₂, ◌∙◌}
use mathlib.Core.Logic.{◌≢◌}
use mathlib.Core.Bool.{true}
use mathlib.Core.List.{List}
use Prim.Native.Nat.{ℕ, zero, suc, ◌+◌, ◌-◌, ◌*◌, ◌/◌, ◌%◌, ◌^◌, ◌≤◌, ◌<◌}
use native.Mathlib.Omega.{arith}
use native.Mathlib.Nat.{mod-eq_of_lt, le_refl, pow-succ', mul-le-mul_right}
use borrow.Author.Tests.{eq-eqb}
use lib.Dec.{eqb}
use lib.ListN.{length, length-append}
use Rattle.field.specs.Half.{half}
use Rattle.field.specs.Logarithm.{clog}
use Rattle.field.specs.Polynomials.{order_constant, order_polynomial}
use Rattle.field.proofs.Modular.{mod_same}
use Rattle.circuit.specs.Depth.{depths}
use Rattle.circuit.specs.Meaning.{Algebra, Solves}
use Rattle.circuit.specs.Table.{Head, all_fit}
use Rattle.circuit.specs.Value.{values}
use Rattle.circuit.proofs.Fitting.{fit_append}
use Rattle.circuit.proofs.Meaning.{solves_append}
use Rattle.comparison.specs.OrderDigit.{low_power}
use Rattle.comparison.proofs.LowPowers.{low_powers, low_length, low_fits, low_value, low_depth}
use Rattle.step.specs.Coefficient.{coefficient}
use Rattle.step.specs.Digit.{step_sum, step_gates}
use Rattle.step.specs.Pieces.{Sum, none, held, piece}
use Rattle.step.specs.Powers.{top_level, squares_from, step_powers}
use Rattle.step.proofs.Levels.{less_power, top_reaches, top_least, top_some}
use Rattle.step.proofs.OrderParts.{at_last, coefficient_below, order_parts}
use Rattle.step.proofs.PieceDepth.{piece_told}
use Rattle.step.proofs.PieceFits.{EndsAt, piece_end, piece_fits}
use Rattle.step.proofs.PieceLevel.{Exactly, piece_exact}
use Rattle.step.proofs.PieceSize.{piece_same, piece_few}
use Rattle.step.proofs.PieceSome.{Some, piece_some, piece_nothing}
use Rattle.step.proofs.PieceValue.{piece_holds, piece_below}
use Rattle.step.proofs.Squares.{squares_length, squares_fit, square_value, square_depth}

-- a sum whose depth and last gate are known is this node
sum_node : (k n d gate : ℕ) (sum : Sum) → Exactly d sum → EndsAt k n sum → suc gate ≡ k + n → sum ≡ held (record { gate = gate; depth = d })
sum_node k n d gate none exact end e = absurd exact
sum_node k n d gate (held s) exact end e =
    let same : s.gate ≡ gate = omega arith in
    ap₂ (λ (g t : ℕ). held (record { gate = g; depth = t })) same exact

module _ (p step : ℕ) (three : 3 ≤ p) (odd : p % 2 ≡ 1) (one : 1 ≤ step) (low : step ≤ half p) where
  abbrev levels : ℕ
  levels = top_level p step

  abbrev start : ℕ → ℕ
  start z = suc z + length (step_powers p step z)

  some_levels : 1 ≤ levels
  some_levels = top_some p step one (omega arith)

  pub powers_length : (z : ℕ) → length (step_powers p step z) ≡ (step - 1) + (levels - 1)
  powers_length z =
      length-append (low_powers step z) (squares_from (levels - 1) (low_power z step))
      ∙ ap₂ ◌+◌ (low_length step z) (squares_length (levels - 1) (low_power z step))

  -- ---- the sum

  -- the constant of z^(p-1) is (p+1)/2
  last_there : coefficient p (p - 1) ≢ 0
  unfolding order_constant
  last_there q =
      let e : eqb (p - 1) (p - 1) ≡ true = eq-eqb (p - 1) (p - 1) refl in
      let known : order_constant p (p - 1) ≡ (p + 1) / 2 = rw (e, order_constant) in
      omega (arith, known, at_last p three odd)

  -- so the upper half of the whole is there
  upper_there : (i z : ℕ) → levels ≡ suc i → (k : ℕ) → Some (piece p step z (coefficient p) i (0 + step * 2 ^ i) k).sum
  upper_there i z e k =
      let m = step * 2 ^ i in
      let below : m < p - 1 = top_least p step one i e in
      let twice : step * 2 ^ suc i ≡ m + m = omega (arith, ap (λ (t : ℕ). step * t) (pow-succ' 2 i)) in
      let reached : p - 1 ≤ m + m = omega (arith, top_reaches p step one, ap (λ (t : ℕ). step * 2 ^ t) e) in
      let same : 0 + m + (p - 1 - m) ≡ p - 1 = omega arith in
      piece_some p step z (coefficient p) i (0 + m) k (p - 1 - m) (omega arith) (omega arith)
      (λ q. last_there (ap (coefficient p) (sym same) ∙ q))

  exact : (z : ℕ) → Exactly (clog step + levels) (step_sum p step z).sum
  exact z = go levels refl some_levels
    where
      go : (n : ℕ) → levels ≡ n → 1 ≤ n → Exactly (clog step + n) (piece p step z (coefficient p) n 0 (start z)).sum
      go zero e l = absurd (omega arith)
      go (suc i) e l = piece_exact p step z (coefficient p) i 0 (start z) (upper_there i z e)

  -- the node that holds it: the last of the gates
  pub step_sum_lem : (z : ℕ)
      → (step_sum p step z).sum ≡ held (record { gate = z + length (step_gates p step z); depth = clog step + top_level p step })
  step_sum_lem z =
      sum_node (start z) (length (step_sum p step z).gates) _ _ (step_sum p step z).sum (exact z)
      (piece_end p step z (coefficient p) levels 0 (start z))
      (omega (arith, length-append (step_powers p step z) (step_sum p step z).gates))

  pub less_size : (y z : ℕ) → length (step_gates p step y) ≡ length (step_gates p step z)
  less_size y z =
      length-append (step_powers p step y) (step_sum p step y).gates
      ∙ ap₂ ◌+◌ (powers_length y ∙ sym (powers_length z)) (piece_same p step (coefficient p) y z levels 0 (start y) (start z)).0
      ∙ sym (length-append (step_powers p step z) (step_sum p step z).gates)

  -- L has a gate at least
  pub less_some : (z : ℕ) → 1 ≤ length (step_gates p step z)
  less_some z = go (length (step_sum p step z).gates) refl
    where
      go : (n : ℕ) → length (step_sum p step z).gates ≡ n → 1 ≤ length (step_gates p step z)
      go zero e = absurd (rw (step_sum_lem z) at (piece_nothing p step z (coefficient p) levels 0 (start z) e))
      go (suc n) e = omega (arith, length-append (step_powers p step z) (step_sum p step z).gates)

  -- and fewer than eleven times p
  pub less_few : (z : ℕ) → length (step_gates p step z) ≤ 11 * p
  less_few z = go levels refl some_levels
    where
      go : (n : ℕ) → levels ≡ n → 1 ≤ n → length (step_gates p step z) ≤ 11 * p
      go zero e l = absurd (omega arith)
      go (suc i) e l =
          let m = step * 2 ^ i in
          let below : m < p - 1 = top_least p step one i e in
          let least : 2 ^ i ≤ m = omega (arith, mul-le-mul_right (2 ^ i) one) in
          let whole = piece_few p step z (coefficient p) (suc i) 0 (start z) in
          let same = ap (λ (n : ℕ). length (piece p step z (coefficient p) n 0 (start z)).gates) e in
          omega (
            arith,
            length-append (step_powers p step z) (step_sum p step z).gates,
            powers_length z,
            whole,
            same,
            e,
            less_power i,
            pow-succ' 2 i,
            ap (λ (t : ℕ). step * t) (pow-succ' 2 i),
          )

  -- ---- over any entries: the powers up to the step size, the squares, and the sum

  parts : {A : Type 0} (alg : Algebra A) (E : ℕ → A) (z : ℕ) → Solves alg E (suc z) (step_gates p step z)
      → Solves alg E (suc z) (low_powers step z)
      × Solves alg E (suc (low_power z step)) (squares_from (levels - 1) (low_power z step))
      × Solves alg E (start z) (step_sum p step z).gates
  parts alg E z h =
      let s = solves_append alg E (step_powers p step z) _ (suc z) h in
      let q = solves_append alg E (low_powers step z) _ (suc z) s.0 in
      let after : suc z + length (low_powers step z) ≡ suc (low_power z step) = omega (arith, low_length step z) in
      (q.0, rw after at q.1, s.1)

  pub less_value : (left right : List ℕ) (E : ℕ → ℕ) (z : ℕ) → Solves (values p left right) E (suc z) (step_gates p step z)
      → E (z + length (step_gates p step z)) ≡ order_polynomial p (E z) % p
  less_value left right E z h =
      let s = parts (values p left right) E z h in
      let lows = low_value left right E p (omega arith) step z s.0 in
      let splits = square_value left right E p (omega arith) (E z) (levels - 1) (low_power z step) step s.1 (lows step one (le_refl step)) in
      let is = piece_holds left right E p (omega arith) step z (E z) (coefficient p) (coefficient_below p three odd) lows levels
      (λ i l. splits i (omega (arith, some_levels))) 0 (start z) s.2 in
      let below = piece_below left right E p (omega arith) step z (coefficient p) levels 0 (start z) s.2 in
      sym (mod-eq_of_lt (rw (step_sum_lem z) at below)) ∙ (rw (step_sum_lem z) at is)
      ∙ mod_same p (order_parts p three odd (E z) _ (top_reaches p step one))

  pub less_depth : (E : ℕ → ℕ) (z : ℕ) → Solves depths E (suc z) (step_gates p step z) → E z ≡ 0
      → E (z + length (step_gates p step z)) ≡ clog step + top_level p step
  less_depth E z h flat =
      let s = parts depths E z h in
      let lows = low_depth E step z s.0 flat in
      let splits = square_depth E (levels - 1) (low_power z step) (clog step) s.1 (lows step one (le_refl step)) in
      let told = piece_told E p step z (coefficient p) lows levels (λ i l. splits i (omega (arith, some_levels))) 0 (start z) s.2 in
      rw (step_sum_lem z) at told

  pub less_fits : (head : Head) (z : ℕ) → head.prime ≡ p → all_fit head (suc z) (step_gates p step z) ≡ true
  less_fits head z prime =
      let after : suc z + length (low_powers step z) ≡ suc (low_power z step) = omega (arith, low_length step z) in
      fit_append head (suc z) (step_powers p step z) (step_sum p step z).gates
      (fit_append head (suc z) (low_powers step z) (squares_from (levels - 1) (low_power z step)) (low_fits head step z)
      (rw after (squares_fit head (levels - 1) (low_power z step))))
      (piece_fits head p step z (coefficient p) prime odd (coefficient_below p three odd) levels 0 (start z) one
      (omega (arith, powers_length z, some_levels)))
