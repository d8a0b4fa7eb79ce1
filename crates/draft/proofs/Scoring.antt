-- The conditions' outputs added up, each scaled by its weight: what is known between two turns, and how a turn goes.
-- The terms that are left to write give the whole sum, and the deepest output so far with those that are left is the deepest of all.
-- Assumes nothing.
use mathlib.Core.Path.{◌≡◌, refl, sym, ap, ap₂, ◌∙◌}
use mathlib.Core.List.{List, [], ◌∷◌, ◌++◌, map}
use Prim.Native.Nat.{ℕ, zero, suc, ◌+◌, ◌*◌, ◌≤◌, ◌<◌, max}
use native.Mathlib.Omega.{arith}
use lib.ListN.{length, get_or, drop, drop_of_length-le, length-map}
use Rattle.circuit.specs.Constant.{code}
use Rattle.circuit.specs.Gate.{Gate, Scale, Add}
use Rattle.circuit.specs.Segment as segment
use Rattle.circuit.specs.Sums.{later_sum, sum_from, sum_gate, largest}
use Rattle.comparison.specs.Condition.{Condition}
use Rattle.query.specs.Score.{weights_of, scaled_outputs, score_sum}
use Rattle.card.specs.Conditions.{IsWeight}
use Rattle.writer.specs.declared.Node.{Node}
use Rattle.writer.specs.declared.Writer.{Writer}
use Rattle.writer.specs.Nodes.{node_is}
use Rattle.writer.specs.Writing.{Writes}
use Rattle.writer.specs.Leaves.{Leaves}
use Rattle.writer.proofs.Leaves.{leaves_all, leaves_as, leaves_then, leaves_none}
use Rattle.writer.proofs.Writing.{same_writes, follows}

abbrev level : segment.Node → ℕ
level f = f.depth

module _ (p : ℕ) (cs : List Condition) (outputs : List segment.Node) where
  abbrev ws : List ℕ
  ws = weights_of cs

  -- the terms from number k on, and the sums with them: from gate number next on, over the gate of the sum so far
  abbrev terms_from : ℕ → ℕ → ℕ → List Gate
  terms_from next sum k = later_sum next sum (scaled_outputs p (drop k ws) (drop k outputs))

  -- k terms are written, of which the first was when the loop began
  pub record Adds (w₀ : Writer) (sum₀ : Node) (w : Writer) (sum : Node) (k : ℕ) : Type 0 where
    pub turns : (1 ≤ k) × (k ≤ length cs)
    -- the sum so far is the last gate that is written
    pub place : (sum.gate + 1 ≡ w.pen.next) × (w.pen.next + 2 ≡ w₀.pen.next + 2 * k)
    pub deepest : max sum.depth (largest (map level (drop k outputs))) ≡ max sum₀.depth (largest (map level (drop 1 outputs)))
    pub remains : Leaves w₀ (terms_from w₀.pen.next sum₀.gate 1) w (terms_from w.pen.next sum.gate k)

  -- the loop begins with the first term
  pub starts : (w₀ : Writer) (sum₀ : Node) → 1 ≤ length cs → sum₀.gate + 1 ≡ w₀.pen.next
      → w₀.pen.products ≤ w₀.pen.next → w₀.pen.squares ≤ w₀.pen.next → Adds w₀ sum₀ w₀ sum₀ 1
  starts w₀ sum₀ some gate products squares = record {
    turns = (omega arith, some);
    place = (gate, omega arith);
    deepest = refl;
    remains = leaves_all products squares;
  }

  -- a condition's weight and its output, of the number k
  module _ (k w : ℕ) (f : segment.Node) (is : IsWeight cs k w) (at : drop k outputs ≡ f ∷ drop (k + 1) outputs) where
    deeper : max f.depth (largest (map level (drop (k + 1) outputs))) ≡ largest (map level (drop k outputs))
    unfolding largest
    deeper = ap (λ (fs : List segment.Node). largest (map level fs)) (sym at)

    next_term : (next sum : ℕ) → terms_from next sum k
        ≡ (Scale f.gate (code p w) ∷ Add sum next ∷ []) ++ terms_from (next + 2) (next + 1) (k + 1)
    unfolding later_sum scaled_outputs
    next_term next sum =
        let one : next + 1 ≡ suc next = omega arith in
        let two : next + 2 ≡ suc (suc next) = omega arith in
        ap₂ (λ (vs : List ℕ) (fs : List segment.Node). later_sum next sum (scaled_outputs p vs fs)) is at ∙ rw (one, two)

  module _ (w₀ : Writer) (sum₀ : Node) (w : Writer) (sum : Node) (k : ℕ) (a : Adds w₀ sum₀ w sum k) where
    -- one term more
    pub adds : (v : ℕ) (f : segment.Node) → IsWeight cs k v → drop k outputs ≡ f ∷ drop (k + 1) outputs → k < length cs
        → (w' : Writer) (sum' : Node)
        → Writes w (Scale f.gate (code p v) ∷ Add sum.gate w.pen.next ∷ []) w'
        → (sum'.gate ≡ w.pen.next + 1) × (sum'.depth ≡ max sum.depth f.depth)
        → Adds w₀ sum₀ w' sum' (k + 1)
    adds v f is at l w' sum' wrote n =
        let m = wrote.moved in
        let split = next_term k v f is at w.pen.next sum.gate in
        let onward = ap₂ (λ (next gate : ℕ). terms_from next gate (k + 1)) (sym m.0) (sym n.0) in
        record {
          turns = (omega arith, omega arith);
          place = (omega (arith, m, n), omega (arith, m, a.place));
          deepest = omega (arith, n, a.deepest, deeper k v f is at);
          remains = leaves_as onward (leaves_then (leaves_as split a.remains) wrote);
        }

    -- all are written, after the first one before the loop
    pub ends : length outputs ≡ length cs → length cs ≤ k → (v : ℕ) (f : segment.Node) → IsWeight cs 0 v → drop 0 outputs ≡ f ∷ drop 1 outputs
        → (w₁ : Writer) → Writes w₁ (Scale f.gate (code p v) ∷ []) w₀
        → (sum₀.gate ≡ w₁.pen.next) × (sum₀.depth ≡ f.depth)
        → Writes w₁ (score_sum p cs w₁.pen.next outputs).gates w
        × (node_is sum ≡ (score_sum p cs w₁.pen.next outputs).output)
    unfolding later_sum scaled_outputs largest
    ends many h v f is at w₁ wrote first =
        let no_term : drop k ws ≡ [] = drop_of_length-le ws {i = k} (omega (arith, length-map cs (λ (c : Condition). c.weight))) in
        let no_output : drop k outputs ≡ [] = drop_of_length-le outputs {i = k} (omega arith) in
        let later = leaves_none (leaves_as (ap (λ (vs : List ℕ). later_sum w.pen.next sum.gate (scaled_outputs p vs (drop k outputs))) no_term) a.remains) in
        let next : suc w₁.pen.next ≡ w₀.pen.next = omega (arith, wrote.moved) in
        let all = ap₂ (λ (vs : List ℕ) (fs : List segment.Node). sum_from w₁.pen.next (scaled_outputs p vs fs)) is at in
        let split = all ∙ ap₂ (λ (n g : ℕ). Scale f.gate (code p v) ∷ terms_from n g 1) next (sym first.0) in
        let gate : sum.gate ≡ sum_gate w₁.pen.next (length outputs) = omega (arith, a.place, a.turns, wrote.moved) in
        let deep : sum.depth ≡ largest (map level outputs) = omega (arith, first, a.deepest, deeper 0 v f is at, ap (λ (fs : List segment.Node). largest (map level fs)) no_output) in
        (same_writes (sym split) (follows wrote later), ap₂ (λ (g d : ℕ). node_is (record { gate = g; depth = d })) gate deep)

-- the output at a place, and those after it
pub output_at : (nodes : List Node) (k : ℕ) → k < length nodes
    → drop k (map node_is nodes) ≡ node_is (get_or nodes k (record { gate = 0; depth = 0 })) ∷ drop (k + 1) (map node_is nodes)
output_at [] k l = absurd (omega arith)
output_at (n ∷ ns) zero l = refl
output_at (n ∷ ns) (suc k) l = output_at ns k (omega arith) ∙ ap (λ (j : ℕ). node_is (get_or ns k (record { gate = 0; depth = 0 })) ∷ drop j (map node_is (n ∷ ns))) next
  where
    next : suc (k + 1) ≡ suc k + 1
    next = omega arith
