-- The tests of a digit for a step size are lawful, their bits and their depths; from the laws of L and of the binary chain.
-- Assumes nothing.
use mathlib.Core.Path.{◌≡◌, refl, ap, ◌∙◌}
use mathlib.Core.List.{◌++◌}
use Prim.Native.Nat.{ℕ, zero, suc, ◌+◌, ◌-◌, ◌*◌, ◌^◌, ◌≤◌, ◌<◌}
use native.Mathlib.Omega.{arith}
use native.Mathlib.Nat.{mul_comm, add-suc}
use lib.ListN.{length}
use lib.Pow.{pow-add}
use Rattle.field.specs.Half.{half}
use Rattle.field.specs.Logarithm.{clog}
use Rattle.field.proofs.Logarithm.{clog_mono, clog_factor, clog_power, clog_between}
use Rattle.field.proofs.Polynomials.{order_test, zero_test_lem}
use Rattle.circuit.specs.Depth.{depths}
use Rattle.circuit.specs.Meaning.{Algebra, Solves}
use Rattle.circuit.specs.Value.{values}
use Rattle.circuit.proofs.Meaning.{solves_append}
use Rattle.comparison.specs.Difference.{z_gate}
use Rattle.comparison.specs.Tests.{no_test, test_node}
use Rattle.comparison.proofs.Bits.{ones_some}
use Rattle.comparison.proofs.EqualityDigit.{chain_value, chain_depth, chain_fits, chain_size}
use Rattle.comparison.proofs.Lawful.{base_lawful}
use Rattle.step.specs.Digit.{step_gates, step_less, step_equal, step_tests}
use Rattle.step.specs.Powers.{top_level}
use Rattle.step.specs.Promises.{StepLawful, ByLawful, StepBits, StepDepths, PowerOfTwoDepth}
use Rattle.step.proofs.Digit.{less_size, less_some, less_value, less_depth, less_fits}
use Rattle.step.proofs.Levels.{top_reaches, top_least, top_some}

pub step_lawful : StepLawful
step_lawful p step three odd is = record {
  less = record {
    size = size;
    some = less_some p step three odd one low 0;
    fits = λ head k prime. rw (after k) (less_fits p step three odd one low head (z_gate k) prime);
    value = λ left right E k s. ap E (first k) ∙ less_value p step three odd one low left right E (z_gate k) s;
    tells = λ E k s flat. ap E (first k) ∙ less_depth p step three odd one low E (z_gate k) s flat;
  };
  equal = record {
    size = λ k. chain_size p (next k) (z_gate k) (omega arith);
    some = omega (arith, ones_some (p - 1) (omega arith));
    fits = λ head k prime. chain_fits head p (next k) (z_gate k) (omega arith);
    value = λ left right E k s. chain_value p left right E (next k) (z_gate k) _ (omega arith) (second (values p left right) E k s) (last k);
    tells = λ E k s flat. chain_depth E p (next k) (z_gate k) _ (omega arith) (second depths E k s) (last k) flat;
  };
}
  where
    one : 1 ≤ step
    one = is.0

    low : step ≤ half p
    low = is.1

    size : (k : ℕ) → length (step_gates p step (z_gate k)) ≡ (step_less p step).count
    size k = less_size p step three odd one low (z_gate k) 0

    after : (k : ℕ) → suc (z_gate k + 0) ≡ suc (z_gate k)
    after k = omega arith

    -- L is the last of its gates, and E of the chain's after them
    first : (k : ℕ) → (test_node no_test (step_less p step) k).gate ≡ z_gate k + length (step_gates p step (z_gate k))
    first k = omega (arith, size k)

    next : ℕ → ℕ
    next k = suc (z_gate k + (step_less p step).count)

    last : (k : ℕ) → suc (test_node (step_less p step) (step_equal p step) k).gate ≡ next k + length ((step_equal p step).gates k)
    last k = omega (arith, chain_size p (next k) (z_gate k) (omega arith))

    second : {A : Type 0} (alg : Algebra A) (E : ℕ → A) (k : ℕ)
        → Solves alg E (suc (z_gate k)) ((step_less p step).gates k ++ (step_equal p step).gates k)
        → Solves alg E (next k) ((step_equal p step).gates k)
    second alg E k h =
        let e : suc (z_gate k) + length ((step_less p step).gates k) ≡ next k = omega (arith, size k) in
        rw e at (solves_append alg E ((step_less p step).gates k) ((step_equal p step).gates k) (suc (z_gate k)) h).1

pub by_lawful : ByLawful
by_lawful p zero three odd low = base_lawful p three odd
by_lawful p (suc step) three odd low = step_lawful p (suc step) three odd (omega arith, low)

pub step_bits : StepBits
step_bits p step k left right E prime three odd is below s =
    let lawful = step_lawful p step three odd is in
    let t = step_tests p step in
    let first = (solves_append (values p left right) E (t.less.gates k) (t.equal.gates k) (suc (z_gate k)) s).0 in (
      lawful.less.value left right E k first ∙ order_test p (E (z_gate k)) prime odd below,
      lawful.equal.value left right E k s ∙ zero_test_lem p (E (z_gate k)) prime below,
    )

-- ---- depths

-- z^k and a level more for each split
deep : (step i : ℕ) → 1 ≤ step → clog (step * 2 ^ i) ≡ clog step + i
deep step i one = ap clog (mul_comm step (2 ^ i)) ∙ clog_factor i step one ∙ omega arith

pub step_depths : StepDepths
step_depths p step three is =
    (refl, omega (arith, deep step (top_level p step) is.0, clog_mono (top_reaches p step is.0)), go (top_level p step) refl, refl)
  where
    go : (n : ℕ) → top_level p step ≡ n → clog step + n ≤ suc (clog (p - 1))
    go zero e = absurd (omega (arith, top_some p step is.0 (omega (arith, is.1))))
    go (suc i) e =
        let below : clog (step * 2 ^ i) ≤ clog (p - 1) = clog_mono (omega (arith, top_least p step is.0 i e)) in
        omega (arith, deep step i is.0)

pub power_of_two_depth : PowerOfTwoDepth
power_of_two_depth p i three is = go (top_level p (2 ^ i)) refl
  where
    go : (n : ℕ) → top_level p (2 ^ i) ≡ n → clog (2 ^ i) + n ≡ clog (p - 1)
    go zero e = absurd (omega (arith, top_some p (2 ^ i) is.0 (omega (arith, is.1))))
    go (suc j) e =
        let above : 2 ^ (i + j) < p - 1 = omega (arith, top_least p (2 ^ i) is.0 j e, pow-add 2 i j) in
        let level : 2 ^ i * 2 ^ suc j ≡ 2 ^ suc (i + j) = omega (arith, pow-add 2 i (suc j), ap (λ (t : ℕ). 2 ^ t) (add-suc i j)) in
        let within : p - 1 ≤ 2 ^ suc (i + j) =
        omega (arith, top_reaches p (2 ^ i) is.0, ap (λ (t : ℕ). 2 ^ i * 2 ^ t) e) in
        omega (arith, clog_power i, clog_between (p - 1) (i + j) above within)
