-- The joining of an equality condition: after the digits, the product tree over their outputs makes the condition whole.
-- Each output is as deep as its zero test, so the tree stays far below the most gates.
-- Assumes nothing.
use Rattle.std.proofs.Common.{◌≡◌, ap, ap₂, List, ℕ, zero, suc, ◌+◌, ◌-◌, ◌≤◌, ◌<◌, arith, length, length-append}
use Rattle.field.proofs.Logarithm.{clog_is_ceiling}
use Rattle.digits.specs.Number.{most_digits}
use Rattle.field.specs.Byte.{byte_values}
use Rattle.circuit.specs.Gate.{Gate}
use Rattle.circuit.specs.ProductTree.{product_tree}
use Rattle.circuit.specs.Segment.{Node, Segment}
use Rattle.circuit.specs.Table.{most_gates}
use Rattle.circuit.proofs.ProductTree.{multiply_length}
use Rattle.comparison.specs.Digits.{equality_digits}
use Rattle.comparison.specs.Tests.{digit_depth}
use Rattle.comparison.specs.Writing.{equality_factors, equality_joining, equality_segment}
use Rattle.writer.specs.declared.Slots.{Slots}
use Rattle.writer.specs.declared.Writer.{Writer}
use Rattle.tree.specs.Factors.{Shallow}
use Rattle.writer.specs.Writing.{Writes}
use Rattle.writer.proofs.Writing.{same_writes, follows}
use Rattle.equality.specs.Slots.{equality_condition}

-- ---- depths

factors_shallow : (p k m n j : ℕ) → digit_depth p + m ≤ most_gates → Shallow m (equality_factors p k n j)
unfolding equality_factors
factors_shallow p k m zero j l = tt
factors_shallow p k m (suc n) j l = (l, factors_shallow p k m n (suc j) l)

module _ (p : ℕ) (slots : Slots) (k : ℕ) where
  abbrev digits : List Gate
  digits = equality_digits p (equality_condition slots) k slots.count 0

  abbrev outputs : List Node
  outputs = equality_factors p k slots.count 0

  -- ---- room

  -- the digits are part of the condition
  pub digits_within : length digits ≤ length (equality_segment p (equality_condition slots) k).gates
  unfolding equality_segment
  digits_within = omega (arith, length-append digits (equality_joining p (equality_condition slots) k (k + length digits)).gates)

  -- ---- factors that are the outputs

  module _ {factors : List Node} (are : factors ≡ outputs) where
    pub outputs_shallow : p < byte_values → slots.count ≤ most_digits → Shallow slots.count factors
    outputs_shallow small few =
        rw are
        (factors_shallow p k slots.count slots.count 0 (omega (arith, (clog_is_ceiling (p - 1) 8).0 (omega arith))))

    -- one product fewer than digits
    pub whole_length : length factors ≡ slots.count → length (equality_segment p (equality_condition slots) k).gates ≡ length digits + (slots.count - 1)
    unfolding equality_segment
    whole_length many =
        let next = k + length digits in
        omega (
          arith,
          length-append digits (product_tree next outputs).gates,
          multiply_length (length outputs - 1) next outputs,
          ap length are,
          many,
        )

    pub whole_output : (next : ℕ) → next ≡ k + length digits → (product_tree next factors).output ≡ (equality_segment p (equality_condition slots) k).output
    unfolding equality_segment
    whole_output next e = ap (λ (s : Segment). s.output) (ap₂ product_tree e are)

-- the tree follows the digits
pub whole_wrote : {w w₁ w₂ : Writer} (p : ℕ) (slots : Slots) {factors : List Node}
    → factors ≡ outputs p slots w.pen.next
    → Writes w (digits p slots w.pen.next) w₁
    → Writes w₁ (product_tree w₁.pen.next factors).gates w₂
    → Writes w (equality_segment p (equality_condition slots) w.pen.next).gates w₂
unfolding equality_segment
whole_wrote p slots are a b = follows a (same_writes (ap (λ (s : Segment). s.gates) (ap₂ product_tree a.moved.0 are)) b)
