-- The first values of a function, as a list.
use Rattle.std.specs.Prelude.{ℕ, zero, suc, List, [], ◌∷◌, ◌++◌}

-- f 0, f 1, .. f (n - 1)
unfoldable pub first_values : ℕ → (ℕ → ℕ) → List ℕ
first_values zero f = []
first_values (suc n) f = first_values n f ++ (f n ∷ [])
