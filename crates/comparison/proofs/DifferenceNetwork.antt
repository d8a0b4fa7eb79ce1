-- A digit's difference is a network whose only output is z: z reads LEFT and RIGHT. Tests that are a network over z make a digit one.
-- Assumes nothing.
use mathlib.Core.Path.{◌≡◌}
use mathlib.Core.Bool.{Bool, true, false}
use mathlib.Core.List.{List, [], ◌∷◌, ◌++◌}
use mathlib.Core.Logic.{◌⊎◌, inl, inr, ⊎_elim}
use Prim.Native.Nat.{ℕ, suc, ◌+◌, ◌≤◌, ◌<◌}
use native.Mathlib.Omega.{arith}
use native.Mathlib.Decide.{ℕ_discrete}
use Rattle.circuit.specs.Gate.{Gate, Left, Right}
use Rattle.circuit.specs.Segment.{Node}
use Rattle.circuit.proofs.AllCounted.{Read}
use Rattle.circuit.proofs.Networks.{Among, Network, plain, in_sequence}
use Rattle.circuit.proofs.Unrepeated.{NoMul}
use Rattle.comparison.specs.Condition.{Condition}
use Rattle.comparison.specs.Difference.{minus, z_gate}
use Rattle.comparison.specs.Digits.{digit_difference}
use Rattle.comparison.specs.Relation.{is_backward}

-- z of the difference whose first gate is number k
abbrev pub z_node : ℕ → Node
z_node k = record { gate = z_gate k; depth = 0 }

-- LEFT, RIGHT and z, by whether right comes first
module _ (left right k : ℕ) where
  abbrev gates : Bool → List Gate
  gates b = Left left ∷ Right right ∷ minus b k ∷ []

  gates_none : (b : Bool) → NoMul (gates b)
  gates_none true = (tt, (tt, (tt, tt)))
  gates_none false = (tt, (tt, (tt, tt)))

  gates_read_lem : (b : Bool) (x : ℕ) → Dec (k ≡ x) → Dec (suc k ≡ x) → k ≤ x → x < suc (z_gate k) → Read x (gates b) ⊎ Among x (z_node k ∷ [])
  gates_read_lem true x (yes e) d l m = inl (inr (inr (inl (inr (inl e)))))
  gates_read_lem false x (yes e) d l m = inl (inr (inr (inl (inl e))))
  gates_read_lem true x (no n) (yes e) l m = inl (inr (inr (inl (inl e))))
  gates_read_lem false x (no n) (yes e) l m = inl (inr (inr (inl (inr (inl e)))))
  gates_read_lem b x (no n) (no o) l m = inr (inl (omega arith))

  difference_network : (b : Bool) → Network k [] (gates b) (z_node k ∷ [])
  difference_network b =
      plain k [] (z_node k ∷ []) (gates b) (gates_none b) (λ x none. absurd none)
      (λ x. ⊎_elim (λ e. inr (omega arith, omega arith)) (λ none. absurd none))
      (λ x. ⊎_elim (λ none. absurd none) (λ l. gates_read_lem b x (ℕ_discrete k x) (ℕ_discrete (suc k) x) l.0 (omega (arith, l.1))))

-- a digit
pub digit_network : (c : Condition) (j k : ℕ) (tests : List Gate) (outputs : List Node) → Network (suc (z_gate k)) (z_node k ∷ []) tests outputs
    → Network k [] (digit_difference c j k ++ tests) outputs
digit_network c j k tests outputs network =
    in_sequence (difference_network (c.left + j) (c.right + j) k (is_backward c.relation)) (omega arith) network
