-- Order joining is a network over the L and E of the digits, whose output is L of the whole run, and E if the run lacks digit 0.
-- By induction on the tree of halves: the two halves are networks beside each other, and the join's own gates are one over their outputs.
-- Assumes nothing.
use mathlib.Core.Path.{◌≡◌, refl, sym, ap, ap₂, subst, ◌∙◌}
use mathlib.Core.List.{List, [], ◌∷◌, ◌++◌, append_assoc, append-nil}
use mathlib.Core.Logic.{◌⊎◌, ◌≢◌, inl, inr, ⊎_elim}
use Prim.Native.Nat.{ℕ, zero, suc, ◌+◌, ◌≤◌, ◌<◌}
use native.Mathlib.Omega.{arith}
use native.Mathlib.Decide.{ℕ_discrete}
use lib.ListN.{length, length-append}
use Rattle.circuit.specs.Factors.{InOrder}
use Rattle.circuit.specs.Gate.{Gate, Add, Mul}
use Rattle.circuit.specs.Segment.{Node}
use Rattle.circuit.specs.Tree.{Tree, leaf, join, leaves}
use Rattle.circuit.proofs.AllCounted.{Read}
use Rattle.circuit.proofs.InOrder.{order_before, order_halves, order_apart}
use Rattle.circuit.proofs.Networks.{Among, Within, Network, outputs_before, wires, in_sequence, side_by_side}
use Rattle.circuit.proofs.Unrepeated.{first_apart}
use Rattle.comparison.specs.Joining.{halves, JoinedRun, join_run, join_lowest, whole_run}
use Rattle.comparison.specs.OrderDigit.{ascending}
use Rattle.comparison.proofs.DigitsNetwork.{less_and_equal, gather, gather_append}
use Rattle.comparison.proofs.Halves.{Each, halves_whole, halves_leaves}

-- ---- a join's own gates, from gate number m on

-- MUL(E_high, L_low), ADD(L_high, it), over L of the low half and L and E of the high half
module _ (m : ℕ) (low high equal output : Node) (last : output.gate ≡ suc m) where
  abbrev lowest_inputs : List Node
  lowest_inputs = low ∷ high ∷ equal ∷ []

  abbrev lowest_top : List Gate
  lowest_top = Mul equal.gate low.gate ∷ Add high.gate m ∷ []

  lowest_top_lem : ((x : ℕ) → Among x lowest_inputs → x < m) → Network m lowest_inputs lowest_top (output ∷ [])
  lowest_top_lem before = record {
    before = before;
    from = λ x. ⊎_elim (λ e. inr (omega arith, omega arith)) (λ none. absurd none);
    read = read;
    pairs = ((refl, tt), (tt, tt));
    inner = ((input equal.gate (inr (inr (inl refl))), input low.gate (inl refl)), (tt, tt));
  }
    where
      input : (x : ℕ) → Among x lowest_inputs → Within lowest_inputs m 2 x × (Among x (output ∷ []) → ⊥)
      input x a = (inl a, ⊎_elim (λ e. omega (arith, before x a)) (λ none. none))

      own : (x : ℕ) → m ≤ x → x < m + 2 → Dec (m ≡ x) → Read x lowest_top ⊎ Among x (output ∷ [])
      own x l h (yes e) = inl (inr (inl (inr (inl e))))
      own x l h (no n) = inr (inl (omega arith))

      read : (x : ℕ) → Within lowest_inputs m 2 x → Read x lowest_top ⊎ Among x (output ∷ [])
      read x (inl (inl e)) = inl (inl (inr (inl e)))
      read x (inl (inr (inl e))) = inl (inr (inl (inl e)))
      read x (inl (inr (inr (inl e)))) = inl (inl (inl e))
      read x (inl (inr (inr (inr none)))) = absurd none
      read x (inr l) = own x l.0 l.1 (ℕ_discrete m x)

-- and MUL(E_low, E_high), over E of the low half too
module _ (m : ℕ) (low low_equal high equal output out_equal : Node) (less : output.gate ≡ suc m) (last : out_equal.gate ≡ suc (suc m)) where
  abbrev run_inputs : List Node
  run_inputs = low ∷ low_equal ∷ high ∷ equal ∷ []

  abbrev run_top : List Gate
  run_top = Mul equal.gate low.gate ∷ Add high.gate m ∷ Mul low_equal.gate equal.gate ∷ []

  abbrev run_outputs : List Node
  run_outputs = output ∷ out_equal ∷ []

  run_top_lem : ((x : ℕ) → Among x run_inputs → x < m) → low.gate ≢ low_equal.gate → Network m run_inputs run_top run_outputs
  run_top_lem before differ = record {
    before = before;
    from = λ x. ⊎_elim (λ e. inr (omega arith, omega arith)) (⊎_elim (λ e. inr (omega arith, omega arith)) (λ none. absurd none));
    read = read;
    pairs = (
      first_apart (λ a b. (a ≡ equal.gate) × (b ≡ low.gate)) (λ a b. (a ≡ low_equal.gate) × (b ≡ equal.gate))
          (λ a b q. (λ r. omega (arith, q.0, q.1, r.0, r.1), λ r. omega (arith, q.0, q.1, r.0, r.1)))
          (Mul equal.gate low.gate) (Add high.gate m ∷ Mul low_equal.gate equal.gate ∷ []) (refl, refl) (tt, ((refl, refl), tt)),
      ((refl, tt), (tt, tt)),
    );
    inner = (
      (input equal.gate (inr (inr (inr (inl refl)))), input low.gate (inl refl)),
      (tt, ((input low_equal.gate (inr (inl refl)), input equal.gate (inr (inr (inr (inl refl))))), tt)),
    );
  }
    where
      input : (x : ℕ) → Among x run_inputs → Within run_inputs m 3 x × (Among x run_outputs → ⊥)
      input x a = (inl a, ⊎_elim (λ e. omega (arith, before x a)) (⊎_elim (λ e. omega (arith, before x a)) (λ none. none)))

      own : (x : ℕ) → m ≤ x → x < m + 3 → Dec (m ≡ x) → Dec (suc m ≡ x) → Read x run_top ⊎ Among x run_outputs
      own x l h (yes e) d = inl (inr (inl (inr (inl e))))
      own x l h (no n) (yes e) = inr (inl (omega arith))
      own x l h (no n) (no o) = inr (inr (inl (omega arith)))

      read : (x : ℕ) → Within run_inputs m 3 x → Read x run_top ⊎ Among x run_outputs
      read x (inl (inl e)) = inl (inl (inr (inl e)))
      read x (inl (inr (inl e))) = inl (inr (inr (inl (inl e))))
      read x (inl (inr (inr (inl e)))) = inl (inr (inl (inl e)))
      read x (inl (inr (inr (inr (inl e))))) = inl (inl (inl e))
      read x (inl (inr (inr (inr (inr none))))) = absurd none
      read x (inr l) = own x l.0 l.1 (ℕ_discrete m x) (ℕ_discrete (suc m) x)

-- ---- the tree

-- two halves, over inputs in order, and gates over their outputs
halves_network : (i k : ℕ) {inputs inputs' outputs outputs' results : List Node} {gs hs top : List Gate} → InOrder i k (inputs ++ inputs')
    → Network k inputs gs outputs → Network (k + length gs) inputs' hs outputs'
    → (((x : ℕ) → Among x (outputs ++ outputs') → x < k + length gs + length hs)
    → Network (k + length gs + length hs) (outputs ++ outputs') top results)
    → Network k (inputs ++ inputs') (gs ++ (hs ++ top)) results
halves_network i k {inputs} {inputs'} {gs = gs} {hs} {top} order first second above =
    let both = side_by_side first refl second (order_apart i k inputs inputs' order) in
    let next : k + length gs + length hs ≡ k + length (gs ++ hs) = omega (arith, length-append gs hs) in
    rw (append_assoc gs hs top) at (in_sequence both next (above (λ x a. omega (arith, outputs_before both x a))))

module _ (less equal : ℕ → Node) where
  -- L and E of digit number j
  abbrev pub outputs_of : ℕ → List Node
  outputs_of j = less_and_equal j (less j) (equal j)

  -- those of some digits
  abbrev pub outputs_of_all : List ℕ → List Node
  outputs_of_all js = gather outputs_of js

  -- and of the leaves of a tree
  abbrev inputs_of : Tree ℕ → List Node
  inputs_of (leaf j) = outputs_of j
  inputs_of (join low high) = inputs_of low ++ inputs_of high

  inputs_leaves : (t : Tree ℕ) → inputs_of t ≡ outputs_of_all (leaves t)
  unfolding leaves
  inputs_leaves (leaf j) = sym (append-nil (outputs_of j))
  inputs_leaves (join l h) = ap₂ ◌++◌ (inputs_leaves l) (inputs_leaves h) ∙ sym (gather_append outputs_of (leaves l) (leaves h))

  -- ---- a run that lacks digit 0

  abbrev run : Tree ℕ → ℕ → JoinedRun
  run t k = join_run less equal t k

  abbrev Lacks : Tree ℕ → Type 0
  Lacks t = Each (λ j. 1 ≤ j) t

  -- its L and its E are two gates
  run_differ : (t : Tree ℕ) (i k : ℕ) → Lacks t → InOrder i k (inputs_of t) → (run t k).less.gate ≢ (run t k).equal.gate
  unfolding join_run InOrder
  run_differ (leaf zero) i k lacks o = absurd (omega arith)
  run_differ (leaf (suc j)) i k lacks o = λ e. omega (arith, o.1.0)
  run_differ (join l h) i k lacks o = λ e. omega arith

  run_network : (t : Tree ℕ) (i k : ℕ) → Lacks t → InOrder i k (inputs_of t)
      → Network k (inputs_of t) (run t k).gates ((run t k).less ∷ (run t k).equal ∷ [])
  unfolding join_run
  run_network (leaf zero) i k lacks o = absurd (omega arith)
  run_network (leaf (suc j)) i k lacks o = wires k (outputs_of (suc j)) (order_before i k (outputs_of (suc j)) o)
  run_network (join l h) i k lacks o =
      let s = order_halves i k (inputs_of l) (inputs_of h) o in
      let mid = k + length (run l k).gates in
      let m = mid + length (run h mid).gates in
      let whole = run (join l h) k in
      halves_network i k o (run_network l i k lacks.0 s.1) (run_network h s.0 mid lacks.1 (s.2 mid (omega arith)))
      (λ before. run_top_lem m (run l k).less (run l k).equal (run h mid).less (run h mid).equal whole.less whole.equal refl refl
      before (run_differ l i k lacks.0 s.1))

  -- ---- a run that holds digit 0, as its lowest

  abbrev Holds : Tree ℕ → Type 0
  Holds (leaf j) = j ≡ 0
  Holds (join low high) = Holds low × Lacks high

  lowest_network : (t : Tree ℕ) (i k : ℕ) → Holds t → InOrder i k (inputs_of t)
      → Network k (inputs_of t) (join_lowest less equal t k).gates ((join_lowest less equal t k).output ∷ [])
  unfolding join_lowest
  lowest_network (leaf zero) i k holds o = wires k (outputs_of 0) (order_before i k (outputs_of 0) o)
  lowest_network (leaf (suc j)) i k holds o = absurd (omega arith)
  lowest_network (join l h) i k holds o =
      let s = order_halves i k (inputs_of l) (inputs_of h) o in
      let low = join_lowest less equal l k in
      let mid = k + length low.gates in
      let m = mid + length (run h mid).gates in
      halves_network i k o (lowest_network l i k holds.0 s.1) (run_network h s.0 mid holds.1 (s.2 mid (omega arith)))
      (lowest_top_lem m low.output (run h mid).less (run h mid).equal (join_lowest less equal (join l h) k).output refl)

  -- ---- the run of all n digits

  halves_hold : (n : ℕ) → 1 ≤ n → Holds (halves n 0 n)
  halves_hold n some =
      (halves_whole (λ first m t. (1 ≤ first → Lacks t) × (first ≡ 0 → Holds t)) (λ first. (λ l. l, λ e. e))
      (λ first m low high more l h. (λ f. (l.0 f, h.0 (omega arith)), λ e. (l.1 e, h.0 (omega arith)))) n some).1 refl

  pub joining_network : (n i k : ℕ) → 1 ≤ n → InOrder i k (outputs_of_all (ascending n 0))
      → Network k (outputs_of_all (ascending n 0)) (whole_run less equal n k).gates ((whole_run less equal n k).output ∷ [])
  joining_network n i k some o =
      let are : inputs_of (halves n 0 n) ≡ outputs_of_all (ascending n 0)
      = inputs_leaves (halves n 0 n) ∙ ap outputs_of_all (halves_leaves n some) in
      subst (λ (inputs : List Node). Network k inputs (whole_run less equal n k).gates ((whole_run less equal n k).output ∷ [])) are
      (lowest_network (halves n 0 n) i k (halves_hold n some) (subst (InOrder i k) (sym are) o))
