-- A product tree over its factors, a sum over what its terms read, and a FLIP are networks with one output.
-- The tree by induction on the number of products: a product is a network over the factors, and its outputs are the factors of the rest.
-- Assumes nothing.
use mathlib.Core.Path.{◌≡◌, refl, sym, subst, ◌∙◌}
use mathlib.Core.List.Permᴰ
use mathlib.Core.List.{List, [], ◌∷◌}
use mathlib.Core.Logic.{◌⊎◌, inl, inr, ⊎_elim}
use Prim.Native.Nat.{ℕ, zero, suc, ◌+◌, ◌-◌, ◌*◌, ◌≤◌, ◌<◌}
use native.Mathlib.Omega.{arith}
use native.Mathlib.Decide.{ℕ_discrete}
use lib.ListN.{length}
use Rattle.circuit.specs.Factors.{InOrder}
use Rattle.circuit.specs.Gate.{Gate, Add, Flip, Mul}
use Rattle.circuit.specs.ProductTree.{multiply, product_tree}
use Rattle.circuit.specs.Segment.{Node, times}
use Rattle.circuit.specs.Sums.{later_sum, sum_from, sum_gate}
use Rattle.circuit.proofs.AllCounted.{Read}
use Rattle.circuit.proofs.Choosing.{first_of, second_of, rest_of, next, one_left, pair_is, next_length}
use Rattle.circuit.proofs.InOrder.{order_before}
use Rattle.circuit.proofs.Networks.{Among, Within, Network, wires, plain, in_sequence}
use Rattle.circuit.proofs.Some.{some_left, some_right, some_either, some_with, same_some}
use Rattle.circuit.proofs.Sums.{sum_count}
use Rattle.circuit.proofs.Unrepeated.{NoMul}

-- ---- the product tree

-- one product, of two of the factors
module _ (n k : ℕ) (factors : List Node) (e : length factors ≡ suc (suc n)) (h : InOrder 0 k factors) where
  abbrev a : ℕ
  a = (first_of factors).gate

  abbrev b : ℕ
  b = (second_of factors).gate

  abbrev rest : List Node
  rest = rest_of factors

  abbrev product : Node
  product = times k (first_of factors) (second_of factors)

  -- the two and the rest, which are the factors
  abbrev parts : List Node
  parts = first_of factors ∷ second_of factors ∷ rest

  parted : (x : ℕ) → Among x factors → Among x parts
  parted x m = same_some _ (Permᴰ.symm (pair_is n factors e).same) m

  factor : (x : ℕ) → Among x parts → Among x factors
  factor x m = same_some _ (pair_is n factors e).same m

  -- the rest and the product are left
  left : (x : ℕ) → Among x (next k factors) → Among x rest ⊎ (k ≡ x)
  left x m = ⊎_elim inl (⊎_elim inr (λ none. absurd none)) (some_either _ rest (product ∷ []) m)

  -- and so neither of the two
  gone : (x : ℕ) → (a ≡ x) ⊎ (b ≡ x) → Among x (next k factors) → ⊥
  gone x is m = go is (left x m)
    where
      go : (a ≡ x) ⊎ (b ≡ x) → Among x rest ⊎ (k ≡ x) → ⊥
      go (inl s) (inl r) = some_with (λ (f : Node) apart t. apart.0 (s ∙ sym t)) rest ((pair_is n factors e).alone k h) r
      go (inr s) (inl r) = some_with (λ (f : Node) apart t. apart.1 (s ∙ sym t)) rest ((pair_is n factors e).alone k h) r
      go (inl s) (inr t) = omega (arith, ((pair_is n factors e).named k h).0)
      go (inr s) (inr t) = omega (arith, ((pair_is n factors e).named k h).1)

  product_read : (x : ℕ) → Within factors k 1 x → Read x (Mul a b ∷ []) ⊎ Among x (next k factors)
  product_read x (inr l) = inr (some_right _ rest (product ∷ []) (inl (omega (arith, l.0, l.1))))
  product_read x (inl m) = go (parted x m)
    where
      go : Among x parts → Read x (Mul a b ∷ []) ⊎ Among x (next k factors)
      go (inl s) = inl (inl (inl s))
      go (inr (inl s)) = inl (inl (inr (inl s)))
      go (inr (inr r)) = inr (some_left _ rest (product ∷ []) r)

  product_network : Network k factors (Mul a b ∷ []) (next k factors)
  product_network = record {
    before = order_before 0 k factors h;
    from = λ x m. ⊎_elim (λ r. inl (factor x (inr (inr r)))) (λ s. inr (omega arith, omega arith)) (left x m);
    read = product_read;
    pairs = (tt, tt);
    inner = (((inl (factor a (inl refl)), gone a (inl refl)), (inl (factor b (inr (inl refl))), gone b (inr refl))), tt);
  }

multiply_network : (n k : ℕ) (factors : List Node) → length factors ≡ suc n → InOrder 0 k factors
    → Network k factors (multiply n k factors).gates ((multiply n k factors).output ∷ [])
unfolding multiply
multiply_network zero k factors e h =
    subst (λ (nodes : List Node). Network k nodes [] (first_of factors ∷ [])) (sym (one_left factors e))
    (wires k (first_of factors ∷ []) (λ x m. order_before 0 k factors h x (rw (one_left factors e) m)))
multiply_network (suc n) k factors e h =
    in_sequence (product_network n k factors e h) (omega arith)
    (multiply_network n (suc k) (next k factors) (next_length n k factors e) ((pair_is n factors e).order k h))

pub tree_network : (k : ℕ) (factors : List Node) → 1 ≤ length factors → InOrder 0 k factors
    → Network k factors (product_tree k factors).gates ((product_tree k factors).output ∷ [])
tree_network k factors some h = multiply_network (length factors - 1) k factors (omega arith) h

-- ---- sums

-- what a term reads is read
later_read : (x k sum : ℕ) (gs : List Gate) → Read x gs → Read x (later_sum k sum gs)
unfolding later_sum
later_read x k sum [] h = h
later_read x k sum (g ∷ gs) (inl r) = inl r
later_read x k sum (g ∷ gs) (inr r) = inr (inr (later_read x (suc (suc k)) (suc k) gs r))

pub sum_read : (x k : ℕ) (terms : List Gate) → Read x terms → Read x (sum_from k terms)
sum_read x k [] h = h
sum_read x k (g ∷ gs) (inl r) = inl r
sum_read x k (g ∷ gs) (inr r) = inr (later_read x (suc k) k gs r)

-- and so is each term and each sum but the last
later_own : (x sum : ℕ) (gs : List Gate) → sum ≤ x → x < sum + 2 * length gs → Read x (later_sum (suc sum) sum gs)
unfolding later_sum
later_own x sum [] l m = absurd (omega arith)
later_own x sum (g ∷ gs) l m =
    go (ℕ_discrete sum x) (ℕ_discrete (suc sum) x) (λ more. later_own x (suc (suc sum)) gs more (omega arith))
  where
    go : Dec (sum ≡ x) → Dec (suc sum ≡ x) → (suc (suc sum) ≤ x → Read x (later_sum (suc (suc (suc sum))) (suc (suc sum)) gs))
        → Read x (g ∷ Add sum (suc sum) ∷ later_sum (suc (suc (suc sum))) (suc (suc sum)) gs)
    go (yes s) t later = inr (inl (inl s))
    go (no s) (yes t) later = inr (inl (inr (inl t)))
    go (no s) (no t) later = inr (inr (later (omega arith)))

pub sum_own : (x k : ℕ) (terms : List Gate) → k ≤ x → x < sum_gate k (length terms) → Read x (sum_from k terms)
sum_own x k [] l m = absurd (omega arith)
sum_own x k (g ∷ gs) l m = inr (later_own x k gs l (omega arith))

later_none : (k sum : ℕ) (gs : List Gate) → NoMul gs → NoMul (later_sum k sum gs)
unfolding later_sum
later_none k sum [] h = tt
later_none k sum (g ∷ gs) h = (h.0, (tt, later_none (suc (suc k)) (suc k) gs h.1))

pub sum_none : (k : ℕ) (terms : List Gate) → NoMul terms → NoMul (sum_from k terms)
sum_none k [] h = tt
sum_none k (g ∷ gs) h = (h.0, later_none (suc k) k gs h.1)

-- terms that are no MULs, and read all inputs
pub sum_network : (k : ℕ) (inputs : List Node) (terms : List Gate) (output : Node) → 1 ≤ length terms → NoMul terms
    → ((x : ℕ) → Among x inputs → (x < k) × Read x terms) → output.gate ≡ sum_gate k (length terms)
    → Network k inputs (sum_from k terms) (output ∷ [])
sum_network k inputs terms output some none all place =
    plain k inputs (output ∷ []) (sum_from k terms) (sum_none k terms none) (λ x m. (all x m).0)
    (λ x. ⊎_elim (λ s. inr (omega arith, omega (arith, size))) (λ none. absurd none)) read
  where
    size : length (sum_from k terms) ≡ 2 * length terms - 1
    size = (sum_count k terms).0

    read : (x : ℕ) → Within inputs k (length (sum_from k terms)) x → Read x (sum_from k terms) ⊎ Among x (output ∷ [])
    read x (inl m) = inl (sum_read x k terms (all x m).1)
    read x (inr l) = go (ℕ_discrete output.gate x)
      where
        go : Dec (output.gate ≡ x) → Read x (sum_from k terms) ⊎ Among x (output ∷ [])
        go (yes s) = inr (inl s)
        go (no s) = inl (sum_own x k terms l.0 (omega (arith, l.1, size)))

-- ---- FLIP

pub flip_network : (k : ℕ) (input output : Node) → input.gate < k → output.gate ≡ k
    → Network k (input ∷ []) (Flip input.gate ∷ []) (output ∷ [])
flip_network k input output low place =
    plain k (input ∷ []) (output ∷ []) (Flip input.gate ∷ []) (tt, tt) (λ x. ⊎_elim (λ s. omega arith) (λ none. absurd none))
    (λ x. ⊎_elim (λ s. inr (omega arith, omega arith)) (λ none. absurd none))
    (λ x. ⊎_elim (λ m. inl (inl m)) (λ l. inr (inl (omega (arith, l.0, l.1)))))
