-- Bounds: values below p, each depth at most its gate's number, each gate at most one product or square.
-- Assumes nothing.
use mathlib.Core.Path.{◌≡◌, refl, subst}
use mathlib.Core.Bool.{Bool, true, false, not, ◌&&◌}
use mathlib.Core.List.{List, [], ◌∷◌, ◌++◌}
use Prim.Native.Nat.{ℕ, suc, ◌+◌, ◌*◌, ◌≤◌, ◌<◌, zero-le}
use native.Mathlib.Omega.{arith}
use native.Mathlib.Decide.{dec_lt}
use native.Mathlib.Nat.{mul-le-mul_right, le_antisymm, le_of_suc-le-suc}
use borrow.Author.Tests.{lt-ltb}
use lib.Dec.{eqb}
use lib.ListN.{length}
use Rattle.field.specs.Bit.{bit}
use Rattle.field.proofs.Modular.{residue_below}
use Rattle.digits.specs.Number.{all_below}
use Rattle.digits.proofs.Number.{below_at, below_append}
use Rattle.circuit.specs.Count.{is_mul, is_square, is_product, count, products, squares, cost}
use Rattle.circuit.specs.Depth.{depths}
use Rattle.circuit.specs.Gate.{Gate, Left, Right, Add, Sub, Scale, Flip, Mul, fields}
use Rattle.circuit.specs.Meaning.{meaning, entry_of, interpret, entry_at, Solves}
use Rattle.circuit.specs.Promises.{ValuesBelow, DepthsBelow}
use Rattle.circuit.specs.Table.{most_weight}
use Rattle.circuit.specs.Value.{values}
use Rattle.circuit.proofs.Counted.{counted_fewer}
use Rattle.circuit.proofs.Fitting.{Named, AllNamed, all_named}
use Rattle.circuit.proofs.Meaning.{solved}

-- ---- values

module _ (p : ℕ) (left right : List ℕ) (some : 0 < p) (lefts : all_below p left ≡ true) (rights : all_below p right ≡ true) where
  value_below : (E : ℕ → ℕ) (g : Gate) → meaning (values p left right) E g < p
  value_below E (Left a) = below_at p left a some lefts
  value_below E (Right a) = below_at p right a some rights
  value_below E (Add a b) = residue_below p _ some
  value_below E (Sub a b) = residue_below p _ some
  value_below E (Scale a c) = residue_below p _ some
  value_below E (Flip a) = residue_below p _ some
  value_below E (Mul a b) = residue_below p _ some

  interpret_below : (earlier : List ℕ) (gs : List Gate) → all_below p earlier ≡ true
      → all_below p (interpret (values p left right) earlier gs) ≡ true
  unfolding interpret all_below
  interpret_below earlier [] h = h
  interpret_below earlier (g ∷ gs) h =
      let E = entry_of (values p left right) earlier in
      interpret_below (earlier ++ (meaning (values p left right) E g ∷ [])) gs (below_append p earlier _ h (rw (lt-ltb (meaning (values p left right) E g) p (value_below E g))))

pub values_below : ValuesBelow
unfolding all_below
values_below p left right gates some lefts rights = interpret_below p left right some lefts rights [] gates refl

-- ---- depths

pub depth_below : (E : ℕ → ℕ) (k : ℕ) → ((i : ℕ) → i < k → E i ≤ i) → (g : Gate) → Named k g → meaning depths E g ≤ k
depth_below E k low (Left a) n = zero-le
depth_below E k low (Right a) n = zero-le
depth_below E k low (Add a b) n = omega (arith, low a n.0, low b n.1.0)
depth_below E k low (Sub a b) n = omega (arith, low a n.0, low b n.1.0)
depth_below E k low (Scale a c) n = omega (arith, low a n.0)
depth_below E k low (Flip a) n = omega (arith, low a n.0)
depth_below E k low (Mul a b) n = omega (arith, low a n.0, low b n.1.0)

-- one gate more
low_suc : (E : ℕ → ℕ) (k : ℕ) → ((i : ℕ) → i < k → E i ≤ i) → E k ≤ k → (i : ℕ) → i < suc k → E i ≤ i
low_suc E k low here i l = go (dec_lt i k)
  where
    go : Dec (i < k) → E i ≤ i
    go (yes h) = low i h
    go (no h) = subst (λ (j : ℕ). E j ≤ j) (le_antisymm (omega arith) (le_of_suc-le-suc l)) here

depths_low : (E : ℕ → ℕ) (gs : List Gate) (k : ℕ) → Solves depths E k gs → AllNamed k gs → ((i : ℕ) → i < k → E i ≤ i)
    → (i : ℕ) → i < k + length gs → E i ≤ i
depths_low E [] k s n low i l = low i (omega arith)
depths_low E (g ∷ gs) k s n low i l =
    depths_low E gs (suc k) s.1 n.1 (low_suc E k low (omega (arith, s.0, depth_below E k low g n.0))) i (omega arith)

pub depths_below : DepthsBelow
depths_below head gates k t l =
    let n = all_named head 0 gates t in
    depths_low (entry_at depths gates) gates 0 (solved depths gates [] 0 refl n) n (λ i h. absurd (omega arith)) k (omega arith)

-- ---- counts

pub one_at_most : (m e : Bool) → bit (m && not e) + bit (m && e) ≤ 1
one_at_most true true = omega arith
one_at_most true false = omega arith
one_at_most false e = omega arith

pub counts_below : (gs : List Gate) → count is_product gs + count is_square gs ≤ length gs
unfolding count
counts_below [] = zero-le
counts_below (g ∷ gs) = omega (arith, one_at_most (is_mul g) (eqb (fields g).a (fields g).b), counts_below gs)

pub counted_below : (gs : List Gate) → products gs + squares gs ≤ length gs
counted_below gs = omega (arith, counts_below gs, counted_fewer is_product gs, counted_fewer is_square gs)

pub cost_below : (s : ℕ) (gs : List Gate) → s ≤ most_weight → cost s gs ≤ 100 * length gs
cost_below s gs h = omega (arith, counted_below gs, mul-le-mul_right (squares gs) h)
