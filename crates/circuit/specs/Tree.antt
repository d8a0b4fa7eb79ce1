-- Trees of two-way products (document 01, "Whole card"):
-- "A tree over outputs is a single output, as deep as its gate, or a MUL of two trees that share no output, one deeper than the deeper of them."
use Rattle.std.specs.Prelude.{ℕ, suc, max, List, [], ◌∷◌, ◌++◌}

pub data Tree (X : Type 0) : Type 0 where
  leaf : X → Tree X
  join : Tree X → Tree X → Tree X

-- the leaves, each as often as it is used
unfoldable pub leaves : {X : Type 0} → Tree X → List X
leaves (leaf x) = x ∷ []
leaves (join t u) = leaves t ++ leaves u

-- the depth of a tree over leaves of given depths
unfoldable pub height : {X : Type 0} → (X → ℕ) → Tree X → ℕ
height depth (leaf x) = depth x
height depth (join t u) = suc (max (height depth t) (height depth u))
