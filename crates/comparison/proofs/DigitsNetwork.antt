-- Digits one after the other are a network whose outputs are theirs, in order, where each digit is a network over no inputs.
-- By induction on their count: a digit and those after it stand beside each other.
-- Assumes nothing.
use mathlib.Core.Path.{◌≡◌, refl, sym, ap, subst, ◌∙◌}
use mathlib.Core.List.{List, [], ◌∷◌, ◌++◌, append_assoc}
use Prim.Native.Nat.{ℕ, zero, suc, ◌+◌, zero-le}
use native.Mathlib.Omega.{arith}
use native.Mathlib.Nat.{add-zero, zero-add}
use lib.ListN.{length}
use Rattle.circuit.specs.Factors.{InOrder}
use Rattle.circuit.specs.Gate.{Gate}
use Rattle.circuit.specs.Segment.{Node}
use Rattle.circuit.proofs.Choosing.{order_lower}
use Rattle.circuit.proofs.InOrder.{order_join}
use Rattle.circuit.proofs.Networks.{Network, wires, side_by_side}
use Rattle.comparison.specs.Digits.{digits_from}
use Rattle.comparison.specs.OrderDigit.{ascending}
use Rattle.comparison.proofs.Digits.{digits_end}

-- the outputs of digit number j of an order condition, by the nodes of its L and its E: the lowest has no E
abbrev pub less_and_equal : ℕ → Node → Node → List Node
less_and_equal zero less equal = less ∷ []
less_and_equal (suc j) less equal = less ∷ equal ∷ []

-- those of some digits, one digit's after the other's
abbrev pub gather : (ℕ → List Node) → List ℕ → List Node
gather outputs [] = []
gather outputs (j ∷ js) = outputs j ++ gather outputs js

pub gather_append : (outputs : ℕ → List Node) (is js : List ℕ) → gather outputs (is ++ js) ≡ gather outputs is ++ gather outputs js
gather_append outputs [] js = refl
gather_append outputs (i ∷ is) js =
    rw (gather_append outputs is js) (sym (append_assoc (outputs i) (gather outputs is) (gather outputs js)))

-- digit number j is written from gate number start j on
module _ (digit : ℕ → ℕ → List Gate) (start : ℕ → ℕ) (outputs : ℕ → List Node)
    (follows : (j : ℕ) → start j + length (digit j (start j)) ≡ start (suc j))
    (each : (j : ℕ) → Network (start j) [] (digit j (start j)) (outputs j))
    (order : (j : ℕ) → InOrder (start j) (start (suc j)) (outputs j)) where
  from_network : (n j : ℕ) → Network (start j) [] (digits_from digit start n j) (gather outputs (ascending n j))
  unfolding digits_from ascending
  from_network zero j = wires (start j) [] (λ x none. absurd none)
  from_network (suc n) j = side_by_side (each j) (sym (follows j)) (from_network n (suc j)) (λ x none. absurd none)

  from_order : (n j : ℕ) → InOrder (start j) (start (n + j)) (gather outputs (ascending n j))
  unfolding InOrder ascending
  from_order zero j = omega (arith, ap start (zero-add j))
  from_order (suc n) j =
      let same : n + suc j ≡ suc n + j = omega arith in
      order_join (start j) (start (suc j)) (start (suc n + j)) (outputs j) _ (order j) (rw same at (from_order n (suc j)))

  -- all n, of which the lowest is written from gate number k on
  module _ (n k : ℕ) (first : start 0 ≡ k) where
    abbrev digits : List Gate
    digits = digits_from digit start n 0

    abbrev nodes : List Node
    nodes = gather outputs (ascending n 0)

    pub digits_network : Network k [] digits nodes
    digits_network = subst (λ (m : ℕ). Network m [] digits nodes) first (from_network n 0)

    pub digits_order : InOrder 0 (k + length digits) nodes
    digits_order =
        let end : start (n + 0) ≡ k + length digits = ap start (add-zero n) ∙ sym (digits_end digit start follows n k first) in
        order_lower 0 (start 0) (k + length digits) nodes zero-le (subst (λ (m : ℕ). InOrder (start 0) m nodes) end (from_order n 0))
