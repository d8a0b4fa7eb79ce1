-- Why no zero test is shallower (document 02, E9): what is proved of any gates over a left list of one value x and any right list.
-- The outputs of a zero test at the values below p are one 1 and else 0, so they do not add up to 0.
-- Proved in `proofs/Polynomial.antt`, `proofs/GatePolynomial.antt` and `proofs/Promises.antt`.
use Rattle.std.specs.Prelude.{◌≡◌, List, [], ◌∷◌, ℕ, ◌-◌, ◌%◌, ◌^◌, ◌≤◌, ◌<◌}
use Rattle.field.specs.Logarithm.{clog}
use Rattle.field.specs.Primes.{Prime}
use Rattle.field.specs.Sum.{sum}
use Rattle.circuit.specs.Depth.{depths, depth}
use Rattle.circuit.specs.Gate.{Gate}
use Rattle.circuit.specs.Meaning.{entry_at, output}
use Rattle.circuit.specs.Value.{values}
use Rattle.bound.specs.GatePolynomial.{polynomials}
use Rattle.bound.specs.Polynomial.{evaluate, degree}

-- each gate's value is, modulo p, that of one polynomial at x
abbrev pub GatesArePolynomials : Type 0
GatesArePolynomials =
    (p x : ℕ) (right : List ℕ) (gates : List Gate) (k : ℕ) → 0 < p
    → evaluate (entry_at (polynomials p right) gates k) x % p ≡ entry_at (values p (x ∷ []) right) gates k % p

-- whose degree is at most 2^depth: it at most doubles with each level
abbrev pub DegreesByDepth : Type 0
DegreesByDepth =
    (p : ℕ) (right : List ℕ) (gates : List Gate) (k : ℕ)
    → degree (entry_at (polynomials p right) gates k) ≤ 2 ^ entry_at depths gates k

-- the values below p of a polynomial of degree below p - 1 add up to 0 modulo p, as those of each of its powers do (`PowerSum`)
abbrev pub ValuesCancel : Type 0
ValuesCancel = (p : ℕ) (q : List ℕ) → Prime p → degree q < p - 1 → sum p (evaluate q) % p ≡ 0

-- and so do the outputs of gates that are less than ceil(log2(p-1)) deep
abbrev pub ShallowCancels : Type 0
ShallowCancels =
    (p : ℕ) (right : List ℕ) (gates : List Gate) → Prime p → depth gates < clog (p - 1)
    → sum p (λ x. output (values p (x ∷ []) right) gates) % p ≡ 0
