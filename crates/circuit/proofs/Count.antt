-- Counts of gates written one after the other, whatever of them is counted in the end.
-- Assumes nothing.
use mathlib.Core.Path.{◌≡◌, refl}
use mathlib.Core.Bool.{Bool, false}
use mathlib.Core.List.{List, [], ◌∷◌, ◌++◌, map}
use Prim.Native.Nat.{◌+◌}
use native.Mathlib.Omega.{arith}
use Rattle.circuit.specs.Count.{count}
use Rattle.circuit.specs.Gate.{Gate}

pub count_append : (test : Gate → Bool) (gs hs : List Gate) → count test (gs ++ hs) ≡ count test gs + count test hs
unfolding count
count_append test [] hs = omega arith
count_append test (g ∷ gs) hs = omega (arith, count_append test gs hs)

-- gates of which none passes
pub count_none : {X : Type 0} (test : Gate → Bool) (gate : X → Gate) → ((x : X) → test (gate x) ≡ false) → (xs : List X)
    → count test (map gate xs) ≡ 0
unfolding count
count_none test gate none [] = refl
count_none test gate none (x ∷ xs) = rw (none x) (omega (arith, count_none test gate none xs))

-- others in the place of gates, each passing the test where its gate does
pub count_map : (test : Gate → Bool) (f : Gate → Gate) → ((g : Gate) → test (f g) ≡ test g) → (gs : List Gate)
    → count test (map f gs) ≡ count test gs
unfolding count
count_map test f same [] = refl
count_map test f same (g ∷ gs) = rw (same g, count_map test f same gs)
