-- Nodes in gate order: where their gates stand, and lists of them put together and taken apart.
-- Assumes nothing.
use mathlib.Core.List.{List, [], ◌∷◌, ◌++◌}
use Prim.Native.Nat.{ℕ, suc, ◌≤◌, ◌<◌}
use native.Mathlib.Omega.{arith}
use Rattle.circuit.specs.Factors.{InOrder}
use Rattle.circuit.specs.Segment.{Node}
use Rattle.circuit.proofs.Choosing.{order_bounds, order_every, order_lower}
use Rattle.circuit.proofs.Networks.{Among}
use Rattle.circuit.proofs.Some.{some_with}

-- each gate is between the bounds
pub order_from : (i k : ℕ) (nodes : List Node) → InOrder i k nodes → (x : ℕ) → Among x nodes → i ≤ x
order_from i k nodes h x a = some_with (λ (f : Node) l e. omega (arith, l.0)) nodes (order_every i k nodes h) a

pub order_before : (i k : ℕ) (nodes : List Node) → InOrder i k nodes → (x : ℕ) → Among x nodes → x < k
order_before i k nodes h x a = some_with (λ (f : Node) l e. omega (arith, l.1)) nodes (order_every i k nodes h) a

-- the upper bound may be raised
order_higher : (i k m : ℕ) (nodes : List Node) → k ≤ m → InOrder i k nodes → InOrder i m nodes
unfolding InOrder
order_higher i k m [] l h = omega arith
order_higher i k m (f ∷ fs) l h = (h.0, order_higher (suc f.gate) k m fs l h.1)

-- ---- one list after the other

pub order_join : (i m k : ℕ) (xs ys : List Node) → InOrder i m xs → InOrder m k ys → InOrder i k (xs ++ ys)
unfolding InOrder
order_join i m k [] ys h g = order_lower i m k ys h g
order_join i m k (x ∷ xs) ys h g = (h.0, order_join (suc x.gate) m k xs ys h.1 g)

-- the first ends before the second begins
order_split : (i k : ℕ) (xs ys : List Node) → InOrder i k (xs ++ ys) → (m : ℕ) × InOrder i m xs × InOrder m k ys
unfolding InOrder
order_split i k [] ys h = (i, omega arith, h)
order_split i k (x ∷ xs) ys h = let r = order_split (suc x.gate) k xs ys h.1 in (r.0, (h.0, r.1), r.2)

-- so each is in order by itself, the second also below a higher bound
pub order_halves : (i k : ℕ) (xs ys : List Node) → InOrder i k (xs ++ ys) → (m : ℕ) × InOrder i k xs × ((n : ℕ) → k ≤ n → InOrder m n ys)
order_halves i k xs ys h =
    let s = order_split i k xs ys h in
    (s.0, order_higher i s.0 k xs (order_bounds s.0 k ys s.2) s.1, λ n l. order_higher s.0 k n ys l s.2)

-- and no gate is in both
pub order_apart : (i k : ℕ) (xs ys : List Node) → InOrder i k (xs ++ ys) → (x : ℕ) → Among x ys → (x < k) × (Among x xs → ⊥)
order_apart i k xs ys h x a =
    let s = order_split i k xs ys h in
    let above = order_from s.0 k ys s.2 x a in
    (order_before s.0 k ys s.2 x a, λ b. omega (arith, order_before i s.0 xs s.1 x b))
