-- The difference of two digits (document 01, "Writing one condition").
use Rattle.std.specs.Prelude.{ℕ, suc, Bool, true, false, List, [], ◌∷◌}
use Rattle.circuit.specs.Gate.{Gate, Left, Right, Sub}
use Rattle.comparison.specs.Relation.{Relation, is_backward}

-- of the left digit, gate number k, and the right one, the next gate
abbrev pub minus : Bool → ℕ → Gate
minus false k = Sub k (suc k)
minus true k = Sub (suc k) k

-- "Each writes LEFT, RIGHT, then z": a left and a right slot, from gate number k on
abbrev pub difference : Relation → ℕ → ℕ → ℕ → List Gate
difference relation left right k = Left left ∷ Right right ∷ minus (is_backward relation) k ∷ []

-- the gate of z
abbrev pub z_gate : ℕ → ℕ
z_gate k = suc (suc k)
