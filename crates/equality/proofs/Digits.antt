-- One digit of an equality condition, and what remains of its digits and of their outputs after it.
-- Assumes nothing.
use Rattle.std.proofs.Common.{◌≡◌, sym, ap, ap₂, ◌∙◌, false, List, [], ◌∷◌, ◌++◌, map, append_assoc, append-nil, ℕ, suc, ◌+◌, ◌-◌, ◌≤◌, ◌<◌, add-one, length, set, length-append, arith}
use Rattle.std.proofs.lemmas.List.{take_all}
use Rattle.circuit.specs.Gate.{Gate, Left, Right}
use Rattle.circuit.specs.Segment as segment
use Rattle.circuit.proofs.Records.{one_less}
use Rattle.comparison.specs.Bits.{bits}
use Rattle.comparison.specs.Difference.{minus, difference, z_gate}
use Rattle.comparison.specs.Digits.{digits_from, equality_digit, equality_digit_size, equality_start, equality_digits}
use Rattle.comparison.specs.EqualityDigit.{zero_chain, zero_gates}
use Rattle.comparison.specs.Relation.{Equal}
use Rattle.comparison.specs.Writing.{zero_of, equality_factors}
use Rattle.comparison.proofs.Digits.{digits_cons}
use Rattle.comparison.proofs.EqualityDigit.{zero_length}
use Rattle.writer.specs.declared.Node.{Node}
use Rattle.writer.specs.declared.Slots.{Slots}
use Rattle.writer.specs.declared.Writer.{Writer}
use Rattle.writer.specs.Nodes.{node_is}
use Rattle.writer.specs.Leaves.{Leaves}
use Rattle.writer.specs.Writing.{Writes}
use Rattle.tree.proofs.Factors.{first, added}
use Rattle.writer.proofs.Leaves.{leaves_as, leaves_then}
use Rattle.writer.proofs.Writing.{same_writes, follows}
use Rattle.equality.specs.Slots.{equality_condition}

-- ---- one digit

-- the zero test follows the difference
pub digit_wrote : {w w₁ w₂ : Writer} (p left right : ℕ)
    → Writes w (Left left ∷ Right right ∷ minus false w.pen.next ∷ []) w₁
    → Writes w₁ (zero_chain (bits (p - 1)) w₁.pen.next (w₁.pen.next - 1)) w₂
    → Writes w (difference Equal left right w.pen.next ++ zero_gates p w.pen.next) w₂
digit_wrote {w} {w₁} p left right a b =
    let next : w₁.pen.next ≡ suc (z_gate w.pen.next) = omega (arith, a.moved.0) in
    let z : w₁.pen.next - 1 ≡ z_gate w.pen.next = omega (arith, a.moved.0) in
    follows a (same_writes (ap₂ (zero_chain (bits (p - 1))) next z) b)

module _ (p : ℕ) (slots : Slots) (k n j : ℕ) (l : j < n) where
  abbrev later_digits : List Gate
  later_digits = equality_digits p (equality_condition slots) k (n - (j + 1)) (j + 1)

  abbrev digit : ℕ → List Gate
  digit next = difference Equal (slots.left + j) (slots.right + j) next ++ zero_gates p next

  -- a digit and the later ones
  digits_from_lem : (next : ℕ) → next ≡ equality_start p k j
      → equality_digits p (equality_condition slots) k (n - j) j ≡ digit next ++ later_digits
  digits_from_lem next e = rw e (digits_cons (equality_digit p (equality_condition slots)) (equality_start p k) n j l)

  pub after_digit : {w w₁ w₂ : Writer} {all : List Gate}
      → w₁.pen.next ≡ equality_start p k j
      → Leaves w all w₁ (equality_digits p (equality_condition slots) k (n - j) j)
      → Writes w₁ (digit w₁.pen.next) w₂
      → Leaves w all w₂ later_digits
  after_digit {w₁ = w₁} e l wrote = leaves_then {gs = digit w₁.pen.next} (leaves_as (digits_from_lem w₁.pen.next e) l) wrote

  -- they have room for it
  pub digit_room : (next : ℕ) → 2 ≤ p → next ≡ equality_start p k j
      → equality_digit_size p ≤ length (equality_digits p (equality_condition slots) k (n - j) j)
  digit_room next two e =
      omega (
        arith,
        ap length (digits_from_lem next e),
        length-append (digit next) later_digits,
        length-append (difference Equal (slots.left + j) (slots.right + j) next) (zero_gates p next),
        zero_length p next two,
      )

  -- ---- outputs

  abbrev later_outputs : List segment.Node
  later_outputs = equality_factors p k (n - (j + 1)) (j + 1)

  outputs_cons : equality_factors p k (n - j) j ≡ zero_of p k j ∷ later_outputs
  unfolding equality_factors
  outputs_cons = rw (one_less n j l, add-one j)

  -- a digit's output goes to its place
  pub outputs_next : (nodes : List Node) (node : Node) {all : List segment.Node} → n ≤ length nodes → node_is node ≡ zero_of p k j
      → first j nodes ++ equality_factors p k (n - j) j ≡ all → first (j + 1) (set nodes j node) ++ later_outputs ≡ all
  outputs_next nodes node room e h =
      let before = first j nodes in
      ap (λ (fs : List segment.Node). fs ++ later_outputs) (added j nodes node (omega arith))
      ∙ append_assoc before (node_is node ∷ []) later_outputs
      ∙ ap (λ (f : segment.Node). before ++ (f ∷ later_outputs)) e
      ∙ ap (λ (fs : List segment.Node). before ++ fs) (sym outputs_cons)
      ∙ h

-- no digit is left
pub no_digits : (p : ℕ) (slots : Slots) (k n j : ℕ) → n ≤ j → equality_digits p (equality_condition slots) k (n - j) j ≡ []
unfolding digits_from
no_digits p slots k n j l = let e : n - j ≡ 0 = omega arith in rw e

pub no_outputs : (p k n j : ℕ) (nodes : List Node) {all : List segment.Node} → j ≡ n → length nodes ≡ n
    → first j nodes ++ equality_factors p k (n - j) j ≡ all → map node_is nodes ≡ all
unfolding equality_factors
no_outputs p k n j nodes e long h =
    let none : n - j ≡ 0 = omega arith in
    ap (map node_is) (sym (take_all j nodes (omega arith))) ∙ sym (append-nil (first j nodes)) ∙ (rw none at h)
