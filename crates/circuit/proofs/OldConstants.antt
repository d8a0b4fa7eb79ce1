-- A table with the constants that it had means the same: a SCALE goes by what its constant is modulo p, and is neither a product nor a square.
-- Assumes nothing.
use mathlib.Core.Path.{◌≡◌, refl, ap, ap₂}
use mathlib.Core.List.{List, [], ◌∷◌, map}
use Prim.Native.Nat.{ℕ, suc, ◌-◌}
use lib.ListN.{length, length-map}
use Rattle.circuit.specs.Constant.{plus}
use Rattle.circuit.specs.Count.{is_square, is_product, same_pair, counted, products, squares}
use Rattle.circuit.specs.Depth.{depths, depth}
use Rattle.circuit.specs.Gate.{Gate, Left, Right, Add, Sub, Scale, Flip, Mul}
use Rattle.circuit.specs.Meaning.{meaning, entry_of, entries}
use Rattle.circuit.specs.OldConstants.{old_gate, SameUnderOld, OldConstant}
use Rattle.circuit.specs.Operands.{operands}
use Rattle.circuit.specs.Sums.{later_sum, sum_from}
use Rattle.circuit.specs.Value.{values}
use Rattle.circuit.proofs.Constant.{code_is}
use Rattle.circuit.proofs.Count.{count_map}
use Rattle.circuit.proofs.Counted.{counted_map}
use Rattle.circuit.proofs.Meaning.{interpret_map}

module _ (p : ℕ) where
  value_same : (left right : List ℕ) (E : ℕ → ℕ) (g : Gate) → meaning (values p left right) E (old_gate p g) ≡ meaning (values p left right) E g
  value_same left right E (Left a) = refl
  value_same left right E (Right a) = refl
  value_same left right E (Add a b) = refl
  value_same left right E (Sub a b) = refl
  value_same left right E (Scale a c) = refl
  value_same left right E (Flip a) = refl
  value_same left right E (Mul a b) = refl

  depth_same : (E : ℕ → ℕ) (g : Gate) → meaning depths E (old_gate p g) ≡ meaning depths E g
  depth_same E (Left a) = refl
  depth_same E (Right a) = refl
  depth_same E (Add a b) = refl
  depth_same E (Sub a b) = refl
  depth_same E (Scale a c) = refl
  depth_same E (Flip a) = refl
  depth_same E (Mul a b) = refl

  product_same : (g : Gate) → (is_product (old_gate p g) ≡ is_product g) × (is_square (old_gate p g) ≡ is_square g)
  product_same (Left a) = (refl, refl)
  product_same (Right a) = (refl, refl)
  product_same (Add a b) = (refl, refl)
  product_same (Sub a b) = (refl, refl)
  product_same (Scale a c) = (refl, refl)
  product_same (Flip a) = (refl, refl)
  product_same (Mul a b) = (refl, refl)

  operands_same : (g : Gate) → operands (old_gate p g) ≡ operands g
  operands_same (Left a) = refl
  operands_same (Right a) = refl
  operands_same (Add a b) = refl
  operands_same (Sub a b) = refl
  operands_same (Scale a c) = refl
  operands_same (Flip a) = refl
  operands_same (Mul a b) = refl

  pair_same : (g h : Gate) → same_pair (old_gate p g) (old_gate p h) ≡ same_pair g h
  pair_same (Left a) h = refl
  pair_same (Right a) h = refl
  pair_same (Add a b) h = refl
  pair_same (Sub a b) h = refl
  pair_same (Scale a c) h = refl
  pair_same (Flip a) h = refl
  pair_same (Mul a b) (Left c) = refl
  pair_same (Mul a b) (Right c) = refl
  pair_same (Mul a b) (Add c d) = refl
  pair_same (Mul a b) (Sub c d) = refl
  pair_same (Mul a b) (Scale c d) = refl
  pair_same (Mul a b) (Flip c) = refl
  pair_same (Mul a b) (Mul c d) = refl

  module _ (gates : List Gate) where
    abbrev old : List Gate
    old = map (old_gate p) gates

    depths_same : entries depths old ≡ entries depths gates
    depths_same = interpret_map depths (old_gate p) depth_same [] gates

    deep_same : depth old ≡ depth gates
    deep_same = ap₂ (λ (ds : List ℕ) (n : ℕ). entry_of depths ds (n - 1)) depths_same (length-map gates (old_gate p))

    counted_same : counted old ≡ map (old_gate p) (counted gates)
    counted_same = counted_map (old_gate p) operands_same pair_same gates

    products_same : products old ≡ products gates
    products_same = rw counted_same (count_map is_product (old_gate p) (λ g. (product_same g).0) (counted gates))

    squares_same : squares old ≡ squares gates
    squares_same = rw counted_same (count_map is_square (old_gate p) (λ g. (product_same g).1) (counted gates))

pub same_under_old : SameUnderOld
same_under_old table left right =
    let p = table.head.prime in
    let gates = table.gates in
    let long : length (map (old_gate p) gates) ≡ length gates = length-map gates (old_gate p) in (
      interpret_map (values p left right) (old_gate p) (value_same p left right) [] gates,
      depths_same p gates,
      rw (deep_same p gates, long, products_same p gates, squares_same p gates),
    )

-- the terms of a sum with the constants that they had make the sum with the constants that it had
pub sum_old : (p k : ℕ) (gs : List Gate) → map (old_gate p) (sum_from k gs) ≡ sum_from k (map (old_gate p) gs)
unfolding later_sum
sum_old p k [] = refl
sum_old p k (g ∷ gs) = ap (λ (later : List Gate). old_gate p g ∷ later) (go (suc k) k gs)
  where
    go : (k sum : ℕ) (gs : List Gate) → map (old_gate p) (later_sum k sum gs) ≡ later_sum k sum (map (old_gate p) gs)
    go k sum [] = refl
    go k sum (g ∷ gs) = ap (λ (later : List Gate). old_gate p g ∷ Add sum k ∷ later) (go (suc (suc k)) (suc k) gs)

pub old_constant : OldConstant
old_constant p a c l = ap (λ (n : ℕ). Scale a (plus n)) (code_is p c l)
