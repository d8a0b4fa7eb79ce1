-- The test of an equality digit is a network over z. Each running power is read by the next square, a collected power by the next product,
-- and the last collected power, which is that of the top bit, by the FLIP.
-- A square multiplies the running power twice, and a product multiplies the square by the power that was collected before it,
-- so pairs go up from bit to bit.
-- By induction on the bits, of which the top one is set.
-- Assumes nothing.
use mathlib.Core.Path.{◌≡◌, refl, subst}
use mathlib.Core.Bool.{Bool, true, false, false≢true}
use mathlib.Core.List.{List, [], ◌∷◌}
use mathlib.Core.Logic.{◌⊎◌, inl, inr, ⊎_elim}
use Prim.Native.Nat.{ℕ, zero, suc, ◌+◌, ◌-◌, ◌/◌, ◌%◌, ◌≤◌, ◌<◌, max}
use native.Mathlib.Omega.{arith}
use native.Mathlib.Decide.{ℕ_discrete}
use lib.Arith.{bin_ind}
use lib.Dec.{eqb}
use lib.ListN.{length}
use Rattle.circuit.specs.Gate.{Gate, Mul}
use Rattle.circuit.specs.Segment.{Node}
use Rattle.circuit.proofs.AllCounted.{Read}
use Rattle.circuit.proofs.Networks.{Among, Network, over_one}
use Rattle.circuit.proofs.Unrepeated.{EachPair, EachFactor, Unrepeated, pairs_map, factors_map, first_apart}
use Rattle.comparison.specs.Bits.{bits}
use Rattle.comparison.specs.Difference.{z_gate}
use Rattle.comparison.specs.EqualityDigit.{Collected, nothing, power, chain, zero_chain}
use Rattle.comparison.specs.Tests.{no_test, test_node, equality_test}
use Rattle.comparison.proofs.Bits.{bits_cons, bits_length}
use Rattle.comparison.proofs.DifferenceNetwork.{z_node}
use Rattle.comparison.proofs.EqualityDigit.{zero_length}

-- ---- bits

-- the last of them is set, where there is one
abbrev Topped : List Bool → Type 0
Topped [] = Unit {0}
Topped (b ∷ []) = b ≡ true
Topped (b ∷ c ∷ bs) = Topped (c ∷ bs)

later_topped : (b : Bool) (bs : List Bool) → Topped (b ∷ bs) → Topped bs
later_topped b [] h = tt
later_topped b (c ∷ bs) h = h

bits_topped : (t : ℕ) → Topped (bits t)
unfolding bits
bits_topped = bin_ind (λ t. Topped (bits t)) tt step
  where
    longer : (b : Bool) (bs : List Bool) → 1 ≤ length bs → Topped bs → Topped (b ∷ bs)
    longer b [] some h = absurd (omega arith)
    longer b (c ∷ bs) some h = h

    step : (t : ℕ) → Topped (bits (t / 2)) → Topped (bits t)
    step zero later = tt
    step (suc zero) later = refl
    step (suc (suc t)) later =
        let n = suc (suc t) in
        rw (bits_cons n (omega arith)) (longer (eqb (n % 2) 1) (bits (n / 2)) (omega (arith, bits_length (n / 2) (omega arith))) later)

-- ---- what is read

collected_read : (bs : List Bool) (k r c : ℕ) → Read c (chain bs k r (power c))
unfolding chain
collected_read [] k r c = inl (inl refl)
collected_read (false ∷ bs) k r c = inr (collected_read bs (suc k) k c)
collected_read (true ∷ bs) k r c = inr (inl (inl refl))

running_read : (b : Bool) (bs : List Bool) (k r : ℕ) (c : Collected) → Read r (chain (b ∷ bs) k r c)
unfolding chain
running_read false bs k r c = inl (inl refl)
running_read true bs k r nothing = inl (inl refl)
running_read true bs k r (power c) = inl (inl refl)

-- the first gate of some, and the others
from_first : (k x : ℕ) (gs : List Gate) → k ≤ x → Read k gs → (suc k ≤ x → Read x gs) → Read x gs
from_first k x gs l first others = go (ℕ_discrete k x)
  where
    go : Dec (k ≡ x) → Read x gs
    go (yes e) = subst (λ (y : ℕ). Read y gs) e first
    go (no n) = others (omega arith)

-- every gate but the last
chain_read : (bs : List Bool) (k r : ℕ) (c : Collected) (x : ℕ) → Topped bs → k ≤ x → suc x < k + length (chain bs k r c)
    → Read x (chain bs k r c)
unfolding chain
chain_read [] k r c x top l m = absurd (omega arith)
chain_read (false ∷ []) k r c x top l m = absurd (false≢true top)
chain_read (false ∷ b ∷ bs) k r c x top l m =
    inr (from_first k x (chain (b ∷ bs) (suc k) k c) l (running_read b bs (suc k) k c)
    (λ more. chain_read (b ∷ bs) (suc k) k c x top more (omega arith)))
chain_read (true ∷ bs) k r nothing x top l m =
    inr (from_first k x (chain bs (suc k) k (power k)) l (collected_read bs (suc k) k k)
    (λ more. chain_read bs (suc k) k (power k) x (later_topped true bs top) more (omega arith)))
chain_read (true ∷ bs) k r (power c) x top l m =
    let later = chain bs (suc (suc k)) k (power (suc k)) in
    inr (from_first k x (Mul c k ∷ later) l (inl (inr (inl refl))) (λ more.
    inr (from_first (suc k) x later more (collected_read bs (suc (suc k)) k (suc k))
    (λ most. chain_read bs (suc (suc k)) k (power (suc k)) x (later_topped true bs top) most (omega arith)))))

-- ---- pairs

-- where the collected power stands
abbrev Held : ℕ → ℕ → Collected → Type 0
Held low k nothing = Unit {0}
Held low k (power c) = (low ≤ c) × (c < k)

held_later : (low k : ℕ) (c : Collected) → Held low k c → Held low (suc k) c
held_later low k nothing h = tt
held_later low k (power c) h = (h.0, omega (arith, h.1))

-- what is multiplied stands from the running and the collected power on, and is not the last gate
chain_factors : (bs : List Bool) (low k r : ℕ) (c : Collected) → low ≤ r → r < k → Held low k c
    → EachFactor (λ x. (low ≤ x) × (suc x < k + length (chain bs k r c))) (chain bs k r c)
unfolding chain
chain_factors [] low k r c l m h = (tt, tt)
chain_factors (false ∷ bs) low k r c l m h = (
  ((l, omega arith), (l, omega arith)),
  factors_map (λ x s. (s.0, omega (arith, s.1))) (chain bs (suc k) k c)
      (chain_factors bs low (suc k) k c (omega arith) (omega arith) (held_later low k c h)),
)
chain_factors (true ∷ bs) low k r nothing l m h = (
  ((l, omega arith), (l, omega arith)),
  factors_map (λ x s. (s.0, omega (arith, s.1))) (chain bs (suc k) k (power k))
      (chain_factors bs low (suc k) k (power k) (omega arith) (omega arith) (omega arith, omega arith)),
)
chain_factors (true ∷ bs) low k r (power c) l m h = (
  ((l, omega arith), (l, omega arith)),
  (
    ((h.0, omega (arith, h.1)), (omega arith, omega arith)),
    factors_map (λ x s. (s.0, omega (arith, s.1))) (chain bs (suc (suc k)) k (power (suc k)))
        (chain_factors bs low (suc (suc k)) k (power (suc k)) (omega arith) (omega arith) (omega arith, omega arith)),
  ),
)

-- and one of the two is the running power or a later one
chain_up : (bs : List Bool) (k r : ℕ) (c : Collected) → r < k → EachPair (λ a b. r ≤ max a b) (chain bs k r c)
unfolding chain
chain_up [] k r c l = (tt, tt)
chain_up (false ∷ bs) k r c l =
    (omega arith, pairs_map (λ a b q. omega arith) (chain bs (suc k) k c) (chain_up bs (suc k) k c (omega arith)))
chain_up (true ∷ bs) k r nothing l =
    (omega arith, pairs_map (λ a b q. omega arith) (chain bs (suc k) k (power k)) (chain_up bs (suc k) k (power k) (omega arith)))
chain_up (true ∷ bs) k r (power c) l = (
  omega arith,
  (
    omega arith,
    pairs_map (λ a b q. omega arith) (chain bs (suc (suc k)) k (power (suc k)))
        (chain_up bs (suc (suc k)) k (power (suc k)) (omega arith)),
  ),
)

-- a square of a power before gate k, among pairs of which one gate is k or a later one
square_apart : (k r : ℕ) (gs : List Gate) → r < k → EachPair (λ a b. k ≤ max a b) gs → Unrepeated gs → Unrepeated (Mul r r ∷ gs)
square_apart k r gs l up u = (
  first_apart (λ a b. (a < k) × (b < k)) (λ a b. k ≤ max a b)
      (λ a b q. (λ s. omega (arith, q.0, q.1), λ s. omega (arith, q.0, q.1))) (Mul r r) gs (l, l) up,
  u,
)

-- a product of a power before gate k, among pairs of which both are k or later ones
product_apart : (k c : ℕ) (gs : List Gate) → c < k → EachFactor (λ x. k ≤ x) gs → Unrepeated gs → Unrepeated (Mul c k ∷ gs)
product_apart k c gs l up u = (
  first_apart (λ a b. a < k) (λ a b. (k ≤ a) × (k ≤ b)) (λ a b q. (λ s. omega (arith, s.0), λ s. omega (arith, s.1)))
      (Mul c k) gs l up,
  u,
)

chain_unrepeated : (bs : List Bool) (k r : ℕ) (c : Collected) → r < k → Held 0 k c → Unrepeated (chain bs k r c)
unfolding chain
chain_unrepeated [] k r c l h = (tt, tt)
chain_unrepeated (false ∷ bs) k r c l h =
    square_apart k r (chain bs (suc k) k c) l (chain_up bs (suc k) k c (omega arith))
    (chain_unrepeated bs (suc k) k c (omega arith) (held_later 0 k c h))
chain_unrepeated (true ∷ bs) k r nothing l h =
    square_apart k r (chain bs (suc k) k (power k)) l (chain_up bs (suc k) k (power k) (omega arith))
    (chain_unrepeated bs (suc k) k (power k) (omega arith) (omega arith, omega arith))
chain_unrepeated (true ∷ bs) k r (power c) l h =
    let later = chain bs (suc (suc k)) k (power (suc k)) in
    square_apart k r (Mul c k ∷ later) l (omega arith, chain_up bs (suc (suc k)) k (power (suc k)) (omega arith))
    (product_apart k c later h.1
    (factors_map (λ x s. s.0) later (chain_factors bs k (suc (suc k)) k (power (suc k)) (omega arith) (omega arith) (omega arith, omega arith)))
    (chain_unrepeated bs (suc (suc k)) k (power (suc k)) (omega arith) (omega arith, omega arith)))

-- ---- the test

-- over z, which the running power is at first
module _ (z output : Node) where
  abbrev g : ℕ
  g = z.gate

  abbrev chain_of : List Bool → Collected → List Gate
  chain_of bs c = chain bs (suc g) g c

  held_any : (c : Collected) → Held g (suc g) c → Held 0 (suc g) c
  held_any nothing h = tt
  held_any (power c) h = (omega arith, h.1)

  -- a chain that reads z
  chain_network : (bs : List Bool) (c : Collected) → output.gate ≡ g + length (chain_of bs c) → Topped bs → Held g (suc g) c
      → Read g (chain_of bs c) → Network (suc g) (z ∷ []) (chain_of bs c) (output ∷ [])
  chain_network bs c last top held first =
      over_one z (chain_of bs c) (output ∷ []) (λ x. ⊎_elim (λ e. (omega arith, omega arith)) (λ none. absurd none))
      (λ x l. read x l.0 l.1 (ℕ_discrete output.gate x)) (chain_unrepeated bs (suc g) g c (omega arith) (held_any c held))
      (factors_map (λ x l. ((l.0, omega (arith, l.1)), ⊎_elim (λ e. omega (arith, l.1)) (λ none. none))) (chain_of bs c)
      (chain_factors bs g (suc g) g c (omega arith) (omega arith) held))
    where
      read : (x : ℕ) → g ≤ x → x < suc g + length (chain_of bs c) → Dec (output.gate ≡ x) → Read x (chain_of bs c) ⊎ Among x (output ∷ [])
      read x l m (yes e) = inr (inl e)
      read x l m (no n) = inl (from_first g x (chain_of bs c) l first (λ more. chain_read bs (suc g) g c x top more (omega arith)))

  zero_network : (bs : List Bool) → output.gate ≡ g + length (zero_chain bs (suc g) g) → Topped bs
      → Network (suc g) (z ∷ []) (zero_chain bs (suc g) g) (output ∷ [])
  unfolding chain
  zero_network [] last top = chain_network [] nothing last tt tt (inl (inl refl))
  zero_network (false ∷ []) last top = absurd (false≢true top)
  zero_network (false ∷ b ∷ bs) last top = chain_network (b ∷ bs) nothing last top tt (running_read b bs (suc g) g nothing)
  zero_network (true ∷ bs) last top =
      chain_network bs (power g) last (later_topped true bs top) (omega arith, omega arith) (collected_read bs (suc g) g g)

pub equality_network : (p k : ℕ) → 2 ≤ p
    → Network (suc (z_gate k)) (z_node k ∷ []) ((equality_test p).gates k) (test_node no_test (equality_test p) k ∷ [])
equality_network p k two =
    zero_network (z_node k) (test_node no_test (equality_test p) k) (bits (p - 1)) (omega (arith, zero_length p k two)) (bits_topped (p - 1))
