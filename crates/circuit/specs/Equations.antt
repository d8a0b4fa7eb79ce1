-- What each kind asks of the gates' values (document 01, "Gate table", kinds), as equations modulo p; a minus stands as a plus on the other side.
-- The values of `Value` meet them: proved in `proofs/Equations.antt`.
use Rattle.std.specs.Prelude.{◌≡◌, true, List, [], ◌∷◌, ℕ, suc, ◌+◌, ◌*◌, ◌%◌, ◌<◌, get_or}
use Rattle.circuit.specs.Constant.{Constant, plus, minus}
use Rattle.circuit.specs.Gate.{Gate, Left, Right, Add, Sub, Scale, Flip, Mul}
use Rattle.circuit.specs.Meaning.{entry_at}
use Rattle.circuit.specs.Table.{Head, all_fit}
use Rattle.circuit.specs.Value.{values}

module _ (p : ℕ) (left right : List ℕ) (value : ℕ → ℕ) where
  -- of gate number k, a SCALE of gate a
  abbrev pub Scaled : ℕ → ℕ → Constant → Type 0
  Scaled k a (plus n) = value k % p ≡ (value a * n) % p
  Scaled k a (minus n) = (value k + value a * n) % p ≡ 0

  -- of gate number k
  abbrev pub Equation : ℕ → Gate → Type 0
  Equation k (Left a) = value k ≡ get_or left a 0
  Equation k (Right a) = value k ≡ get_or right a 0
  Equation k (Add a b) = value k % p ≡ (value a + value b) % p
  Equation k (Sub a b) = (value k + value b) % p ≡ value a % p
  Equation k (Scale a c) = Scaled k a c
  Equation k (Flip a) = (value k + value a) % p ≡ 1 % p
  Equation k (Mul a b) = value k % p ≡ (value a * value b) % p

  -- of gates of which the first has number k
  abbrev pub Equations : ℕ → List Gate → Type 0
  Equations k [] = Unit {0}
  Equations k (g ∷ gs) = Equation k g × Equations (suc k) gs

-- "All modulo p.": the values of a table's gates meet the equation of every gate
abbrev pub GateValues : Type 0
GateValues =
    (head : Head) (left right : List ℕ) (gates : List Gate) → 0 < head.prime → all_fit head 0 gates ≡ true
    → let p = head.prime in
    Equations p left right (entry_at (values p left right) gates) 0 gates
