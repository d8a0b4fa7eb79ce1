-- Bytes that are stored in lent bytes, one run after another.
-- Assumes nothing.
use mathlib.Core.Path.{◌≡◌, sym, ap, ◌∙◌}
use mathlib.Core.List.{List, [], ◌∷◌, ◌++◌}
use Prim.Native.Nat.{ℕ, suc, ◌+◌}
use native.Mathlib.Omega.{arith}
use native.Mathlib.Nat.{add-zero}
use lib.ListN.{length, set}
use lib.Seq.{sets}

-- storing two runs as one is storing the first, and the second after it
pub sets_append : (lent : List ℕ) (i : ℕ) (xs ys : List ℕ) → sets lent i (xs ++ ys) ≡ sets (sets lent i xs) (i + length xs) ys
sets_append lent i [] ys = ap (λ (k : ℕ). sets lent k ys) (sym (add-zero i))
sets_append lent i (x ∷ xs) ys =
    let e : suc i + length xs ≡ i + length (x ∷ xs) = omega arith in
    sets_append (set lent i x) (suc i) xs ys ∙ ap (λ (k : ℕ). sets (sets (set lent i x) (suc i) xs) k ys) e
