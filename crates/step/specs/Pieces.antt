-- L of a step digit as a sum of pieces (document 02, E7). A piece is a level i and an offset o: the terms of the exponents
-- o + 1 to o + step·2^i, divided by z^o. Where its upper half has no term it is its lower half and nothing is written, so that a piece splits
-- at its own level, "j least such that k times 2^j reaches its degree" (`SplitsAtDegree`); its degree is that of its highest term that is not 0.
use Prim.Native.Nat.{ℕ, zero, suc, ◌+◌, ◌*◌, ◌^◌}
use Rattle.std.specs.Prelude.{Bool, true, false, List, [], ◌∷◌, ◌++◌, eqb}
use Rattle.std.proofs.Math.ListN.{length}
use Rattle.field.specs.Logarithm.{clog}
use Rattle.circuit.specs.Constant.{code}
use Rattle.circuit.specs.Gate.{Gate, Add, Scale, Mul}
use Rattle.circuit.specs.Segment.{Node, times, plus}
use Rattle.comparison.specs.OrderDigit.{low_power}
use Rattle.step.specs.Powers.{split_node}

-- a sum: nothing yet, which is 0, or the node that holds it
pub data Sum : Type 0 where
  none : Sum
  held : Node → Sum

-- gates, and the sum that they leave
pub record Piece : Type 0 where
  pub gates : List Gate
  pub sum : Sum

-- ---- terms

-- a term, which the next gate number k holds, added to the sum so far
abbrev pub add_term : ℕ → Gate → ℕ → Sum → Piece
add_term k scale depth none = record { gates = scale ∷ []; sum = held (record { gate = k; depth = depth }) }
add_term k scale depth (held s) = record {
  gates = scale ∷ Add s.gate k ∷ [];
  sum = held (plus (suc k) s (record { gate = k; depth = depth }));
}

-- a term with the constant 0 is not written
abbrev pub next_term : Bool → ℕ → Gate → ℕ → Sum → Piece
next_term true k scale depth sum = record { gates = []; sum = sum }
next_term false k scale depth sum = add_term k scale depth sum

-- ---- two pieces put together

-- "Then come MUL(z^m, upper) and, if the lower is not zero, ADD(lower, it).": from gate number k on
abbrev pub last_gates : Node → ℕ → Sum → Sum → List Gate
last_gates power k low none = []
last_gates power k none (held h) = Mul power.gate h.gate ∷ []
last_gates power k (held l) (held h) = Mul power.gate h.gate ∷ Add l.gate k ∷ []

-- what they leave; where no term is above z^m the piece is its lower one
abbrev pub last_sum : Node → ℕ → Sum → Sum → Sum
last_sum power k low none = low
last_sum power k none (held h) = held (times k power h)
last_sum power k (held l) (held h) = held (plus (suc k) l (times k power h))

-- ---- pieces, over z^1 at gate z, with the coefficients c

module _ (p step z : ℕ) (c : ℕ → ℕ) where
  -- "its nonzero terms, ascending, as SCALEs and ADDs": n exponents from e on, from gate number k on
  unfoldable pub terms_from : ℕ → ℕ → ℕ → ℕ → Sum → Piece
  terms_from zero o e k sum = record { gates = []; sum = sum }
  terms_from (suc n) o e k sum =
      let first = next_term (eqb (c (o + e)) 0) k (Scale (low_power z e) (code p (c (o + e)))) (clog e) sum in
      let later = terms_from n o (suc e) (k + length first.gates) first.sum in
      record { gates = first.gates ++ later.gates; sum = later.sum }

  -- "A piece of degree at most k is its nonzero terms .. A larger piece splits at m = k times 2^(j-1) .. Terms up to z^m are the lower piece,
  -- written first; the others, divided by z^m, are the upper.": of level i and offset o, from gate number k on
  unfoldable pub piece : ℕ → ℕ → ℕ → Piece
  unfolding terms_from
  piece zero o k = terms_from step o 1 k none
  piece (suc i) o k =
      let low = piece i o k in
      let high = piece i (o + step * 2 ^ i) (k + length low.gates) in
      let next = k + length low.gates + length high.gates in
      record {
        gates = low.gates ++ (high.gates ++ last_gates (split_node z step i) next low.sum high.sum);
        sum = last_sum (split_node z step i) next low.sum high.sum;
      }
