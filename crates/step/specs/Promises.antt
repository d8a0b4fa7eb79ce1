-- What is proved of the order digit for a step size (document 02, E7), with p and the step size as parameters.
-- Proved in `proofs/Levels.antt`, `proofs/PieceLevel.antt` and `proofs/Promises.antt`.
use Rattle.std.specs.Prelude.{◌≡◌, List, ◌++◌, ℕ, suc, ◌+◌, ◌-◌, ◌*◌, ◌%◌, ◌^◌, ◌≤◌, ◌<◌, ltb, eqb}
use Rattle.field.specs.Bit.{bit}
use Rattle.field.specs.Half.{half}
use Rattle.field.specs.Logarithm.{clog}
use Rattle.field.specs.Primes.{Prime}
use Rattle.circuit.specs.Meaning.{Solves}
use Rattle.circuit.specs.Value.{values}
use Rattle.comparison.specs.Difference.{z_gate}
use Rattle.comparison.specs.Lawful.{Lawful}
use Rattle.comparison.specs.Tests.{less_node, equal_node, digit_depth}
use Rattle.step.specs.Digit.{IsStep, step_tests, tests_by}
use Rattle.step.specs.Pieces.{piece}
use Rattle.step.specs.Powers.{top_level}

-- "j least such that k times 2^j reaches its degree": the whole polynomial's j, which is 1 at least
abbrev pub LeastLevel : Type 0
LeastLevel =
    (p step : ℕ) → 3 ≤ p → IsStep p step
    → (1 ≤ top_level p step) × (p - 1 ≤ step * 2 ^ top_level p step) × ((i : ℕ) → top_level p step ≡ suc i → step * 2 ^ i < p - 1)

-- and so of every piece, whose degree is that of its highest term that is not 0: above the level that reaches it nothing is written
abbrev pub SplitsAtDegree : Type 0
SplitsAtDegree =
    (p step z i above o k : ℕ) (c : ℕ → ℕ) → ((e : ℕ) → step * 2 ^ i < e → c (o + e) ≡ 0)
    → piece p step z c (i + above) o k ≡ piece p step z c i o k

-- gates, values, depths and rules: L is the order polynomial of z and E the zero test modulo p, both as deep as their tests tell and, wherever they
-- are written, as many gates as they tell; so what is proved of digits, conditions and cards by any lawful tests is proved of step sizes
abbrev pub StepLawful : Type 0
StepLawful = (p step : ℕ) → 3 ≤ p → p % 2 ≡ 1 → IsStep p step → Lawful p (step_tests p step)

-- or of document 01's tests, where there is no step size
abbrev pub ByLawful : Type 0
ByLawful = (p step : ℕ) → 3 ≤ p → p % 2 ≡ 1 → step ≤ half p → Lawful p (tests_by p step)

-- for every odd prime p: over a z below p at its gate, L is 1 where z is above (p-1)/2, so where the first digit was smaller, and 0 otherwise;
-- E is 1 where z is 0, and 0 otherwise
abbrev pub StepBits : Type 0
StepBits =
    (p step k : ℕ) (left right : List ℕ) (entry : ℕ → ℕ) → Prime p → 3 ≤ p → p % 2 ≡ 1 → IsStep p step → entry (z_gate k) < p
    → let t = step_tests p step in
    Solves (values p left right) entry (suc (z_gate k)) (t.less.gates k ++ t.equal.gates k)
    → (entry (less_node t k).gate ≡ bit (ltb (half p) (entry (z_gate k)))) × (entry (equal_node t k).gate ≡ bit (eqb (entry (z_gate k)) 0))

-- L is ceil(log2 k) and the whole polynomial's j deep, which is document 01's D or one more; E is D deep
abbrev pub StepDepths : Type 0
StepDepths =
    (p step : ℕ) → 3 ≤ p → IsStep p step
    → let t = step_tests p step in
    (t.less.depth ≡ clog step + top_level p step)
    × (digit_depth p ≤ t.less.depth)
    × (t.less.depth ≤ suc (digit_depth p))
    × (t.equal.depth ≡ digit_depth p)

-- and D where the step size is a power of two
abbrev pub PowerOfTwoDepth : Type 0
PowerOfTwoDepth = (p i : ℕ) → 3 ≤ p → IsStep p (2 ^ i) → (step_tests p (2 ^ i)).less.depth ≡ digit_depth p
