-- Document 01's tests are lawful: the laws of the order digit and of the equality digit, put together.
-- Assumes nothing.
use mathlib.Core.Path.{◌≡◌, refl, ap, ◌∙◌}
use mathlib.Core.List.{◌++◌}
use Prim.Native.Nat.{ℕ, suc, ◌+◌, ◌-◌}
use native.Mathlib.Omega.{arith}
use native.Mathlib.Nat.{le_refl}
use lib.ListN.{length}
use Rattle.circuit.specs.Depth.{depths}
use Rattle.circuit.specs.Meaning.{Algebra, Solves}
use Rattle.circuit.specs.Value.{values}
use Rattle.circuit.proofs.Meaning.{solves_append}
use Rattle.comparison.specs.Difference.{z_gate}
use Rattle.comparison.specs.Lawful.{BaseLawful, EqualityLawful}
use Rattle.comparison.specs.OrderDigit.{less_gates, equal_gates}
use Rattle.comparison.specs.Tests.{no_test, test_node, base_tests, equality_test}
use Rattle.comparison.proofs.Bits.{ones_some}
use Rattle.comparison.proofs.EqualityDigit.{chain_size, chain_fits, chain_value, chain_depth}
use Rattle.comparison.proofs.OrderDigit.{equal_gate, less_length, less_fits, equal_fits, less_value, equal_value, less_depth, equal_depth}

-- the gate of a test that follows z
first_place : (z n : ℕ) → z + 0 + n ≡ z + n
first_place z n = omega arith

pub base_lawful : BaseLawful
base_lawful p three odd = record {
  less = record {
    size = less_length p three odd;
    some = omega arith;
    fits = λ head k prime. rw (after k) (less_fits p three odd head k prime);
    value = λ left right E k s. ap E (first_place (z_gate k) _) ∙ less_value p three odd left right E k s;
    tells = λ E k s flat. ap E (first_place (z_gate k) _) ∙ less_depth p three odd E k s flat;
  };
  equal = record {
    size = λ k. refl;
    some = omega arith;
    fits = λ head k prime. equal_fits p three odd head k;
    value = λ left right E k s. let both = parts (values p left right) E k s in ap E (last k) ∙ equal_value p three odd left right E k both.0 both.1;
    tells = λ E k s flat. let both = parts depths E k s in ap E (last k) ∙ equal_depth p three odd E k both.0 flat both.1;
  };
}
  where
    after : (k : ℕ) → suc (z_gate k + 0) ≡ suc (z_gate k)
    after k = omega arith

    last : (k : ℕ) → (test_node (base_tests p).less (base_tests p).equal k).gate ≡ equal_gate p k
    last k = omega arith

    -- L, and E after it
    parts : {A : Type 0} (alg : Algebra A) (E : ℕ → A) (k : ℕ) → Solves alg E (suc (z_gate k)) (less_gates p k ++ equal_gates p k)
        → Solves alg E (suc (z_gate k)) (less_gates p k) × Solves alg E (equal_gate p k) (equal_gates p k)
    parts alg E k h =
        let next : suc (z_gate k) + length (less_gates p k) ≡ equal_gate p k = omega (arith, less_length p three odd k) in
        let s = solves_append alg E (less_gates p k) (equal_gates p k) (suc (z_gate k)) h in (s.0, rw next at s.1)

pub equality_lawful : EqualityLawful
equality_lawful p two = record {
  size = λ k. chain_size p (suc (z_gate k)) (z_gate k) two;
  some = omega (arith, ones_some (p - 1) (omega arith));
  fits = λ head k prime. rw (after k) (chain_fits head p (suc (z_gate k)) (z_gate k) (le_refl _));
  value = λ left right E k s. ap E (last k) ∙ chain_value p left right E (suc (z_gate k)) (z_gate k) _ two s (omega arith);
  tells = λ E k s flat. ap E (last k) ∙ chain_depth E p (suc (z_gate k)) (z_gate k) _ two s (omega arith) flat;
}
  where
    after : (k : ℕ) → suc (z_gate k + 0) ≡ suc (z_gate k)
    after k = omega arith

    last : (k : ℕ) → (test_node no_test (equality_test p) k).gate ≡ z_gate k + length ((equality_test p).gates k)
    last k = omega (arith, chain_size p (suc (z_gate k)) (z_gate k) two)
