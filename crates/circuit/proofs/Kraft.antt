-- No tree of two-way products is shallower than clog of the breadth of its leaves.
-- Kraft's inequality: the sum of 2^depth over the leaves is at most 2^height, by induction on the tree; and a rearrangement keeps the sum.
-- Assumes nothing.
use mathlib.Core.List.Permᴰ
use mathlib.Core.List.{List, map, map-append, Permᴰ}
use Prim.Native.Nat.{ℕ, suc, ◌+◌, ◌^◌, ◌≤◌, max}
use native.Mathlib.Omega.{arith}
use native.Mathlib.Nat.{le-max_left, le-max_right}
use lib.Pow.{pow_mono}
use Rattle.field.specs.Logarithm.{clog}
use Rattle.field.specs.Sum.{total}
use Rattle.field.proofs.Logarithm.{clog_is_ceiling}
use Rattle.field.proofs.Sum.{total_append}
use Rattle.circuit.specs.TreePromises.{NoShallower}
use Rattle.circuit.specs.Segment.{Node}
use Rattle.circuit.specs.Tree.{Tree, leaf, join, leaves, height}
use Rattle.circuit.proofs.Rearranged.{same_total}

-- two sums fit under one more level
sum_below : {a b : ℕ} (x y : ℕ) → a ≤ 2 ^ x → b ≤ 2 ^ y → a + b ≤ 2 ^ suc (max x y)
sum_below x y h k = omega (arith, pow_mono (le-max_left x y), pow_mono (le-max_right x y))

-- over leaves of any kind, whose depths are given
module _ {X : Type 0} (depth : X → ℕ) where
  abbrev sum_over : List X → ℕ
  sum_over xs = total (map (λ (x : X). 2 ^ depth x) xs)

  kraft : (tree : Tree X) → sum_over (leaves tree) ≤ 2 ^ height depth tree
  unfolding leaves height total
  kraft (leaf x) = omega arith
  kraft (join t u) = rw (map-append, total_append) (sum_below _ _ (kraft t) (kraft u))

  pub at_least : (xs : List X) (tree : Tree X) → Permᴰ (leaves tree) xs → clog (sum_over xs) ≤ height depth tree
  at_least xs tree same = rw (← same_total (Permᴰ.map (λ (x : X). 2 ^ depth x) same)) ((clog_is_ceiling _ _).0 (kraft tree))

pub no_shallower : NoShallower
no_shallower factors tree same = at_least (λ (f : Node). f.depth) factors tree same
