-- A condition is the gates that its sort of relation shares, with the FLIP of its output at the end where the relation ends with one:
-- its digits depend on the relation only by which side is subtracted. What is written so is the condition.
-- An order condition has as many gates whichever side is subtracted, so room for it does not hang on that.
-- Assumes nothing.
use Rattle.std.proofs.Common.{◌≡◌, refl, sym, ap, ap₂, ◌∙◌, Bool, true, false, true≢false, List, ◌∷◌, ℕ, ◌+◌, ◌*◌, ◌≤◌, arith, length, length-append}
use Rattle.field.specs.Bit.{bit}
use Rattle.field.specs.Logarithm.{flog}
use Rattle.circuit.specs.Gate.{Gate, Left, Right}
use Rattle.circuit.specs.Segment as segment
use Rattle.comparison.specs.Condition.{Condition}
use Rattle.comparison.specs.Difference.{minus}
use Rattle.comparison.specs.Digits.{digits_from, order_tests, order_digit_size, order_start, equality_start}
use Rattle.comparison.specs.Lawful.{Lawful}
use Rattle.comparison.specs.Relation.{Relation, Less, AtMost, Greater, AtLeast, Equal, NotEqual, is_order, is_backward, is_flipped}
use Rattle.comparison.specs.Tests.{Tests, equality_test}
use Rattle.comparison.specs.Writing.{order_joining, order_segment, equality_joining, equality_segment, ending, condition_by}
use Rattle.comparison.proofs.OrderCondition.{order_size}
use Rattle.order.specs.Slots.{order_relation, order_condition}
use Rattle.equality.specs.Slots.{equality_condition}
use Rattle.writer.specs.declared.Node.{Node}
use Rattle.writer.specs.declared.Pen.{Pen}
use Rattle.writer.specs.declared.Slots.{Slots}
use Rattle.writer.specs.declared.Writer.{Writer}
use Rattle.writer.specs.Nodes.{node_is}
use Rattle.writer.specs.Pen.{Moved}
use Rattle.writer.specs.Slots.{condition_on}
use Rattle.writer.specs.Writing.{HasRoom, Writes}
use Rattle.writer.proofs.Writing.{same_writes, follows}

-- ---- relations of one sort

-- the gates of a part, then the FLIP of its output if there is one
abbrev pub ended : Bool → ℕ → segment.Segment → segment.Segment
ended flipped k part = segment.followed_by k part.gates (ending flipped part.output)

-- digits by the side that is subtracted, with any tests after the difference
abbrev sided : Slots → (ℕ → ℕ → List Gate) → (ℕ → ℕ) → Bool → List Gate
sided slots tests start backward =
    digits_from (λ j i. Left (slots.left + j) ∷ Right (slots.right + j) ∷ minus backward i ∷ tests j i) start slots.count 0

order_same : (t : Tests) (r s : Relation) (slots : Slots) (k : ℕ) → is_backward r ≡ is_backward s
    → order_segment t (condition_on r slots) k ≡ order_segment t (condition_on s slots) k
unfolding order_segment
order_same t r s slots k e =
    ap (λ (b : Bool). segment.followed_by k (sided slots (order_tests t) (order_start t k) b) (order_joining t (condition_on r slots) k)) e

equality_same : (p : ℕ) (r s : Relation) (slots : Slots) (k : ℕ) → is_backward r ≡ is_backward s
    → equality_segment p (condition_on r slots) k ≡ equality_segment p (condition_on s slots) k
unfolding equality_segment
equality_same p r s slots k e =
    ap (λ (b : Bool). segment.followed_by k (sided slots (λ j. (equality_test p).gates) (equality_start p k) b) (equality_joining p (condition_on r slots) k)) e

order_side : (b : Bool) → b ≡ is_backward (order_relation b)
order_side true = refl
order_side false = refl

pub order_is : (t : Tests) (p : ℕ) (r : Relation) (slots : Slots) (k : ℕ) (flipped backward : Bool) → is_order r ≡ true → flipped ≡ is_flipped r
    → backward ≡ is_backward r
    → condition_by t p (condition_on r slots) k ≡ ended flipped k (order_segment t (order_condition backward slots) k)
unfolding condition_by
order_is t p r slots k flipped backward order flips side =
    rw (order, flips)
    (ap (ended (is_flipped r) k) (order_same t r (order_relation backward) slots k (sym side ∙ order_side backward)))

-- equality relations subtract the right side
forwards : (r : Relation) → is_order r ≡ false → is_backward r ≡ false
forwards Less o = absurd (true≢false o)
forwards AtMost o = absurd (true≢false o)
forwards Greater o = absurd (true≢false o)
forwards AtLeast o = absurd (true≢false o)
forwards Equal o = refl
forwards NotEqual o = refl

pub equality_is : (t : Tests) (p : ℕ) (r : Relation) (slots : Slots) (k : ℕ) (flipped : Bool) → is_order r ≡ false → flipped ≡ is_flipped r
    → condition_by t p (condition_on r slots) k ≡ ended flipped k (equality_segment p (equality_condition slots) k)
unfolding condition_by
equality_is t p r slots k flipped order flips = rw (order, flips) (ap (ended (is_flipped r) k) (equality_same p r Equal slots k (forwards r order)))

-- ---- the FLIP at the end

flip_size : (b : Bool) (node : segment.Node) (k : ℕ) → length (ending b node k).gates ≡ bit b
flip_size true node k = refl
flip_size false node k = refl

module _ (k : ℕ) (flipped : Bool) (part whole : segment.Segment) (e : whole ≡ ended flipped k part) where
  pub size : length whole.gates ≡ length part.gates + bit flipped
  size =
      ap (λ (t : segment.Segment). length t.gates) e ∙ length-append part.gates _
      ∙ ap (λ (n : ℕ). length part.gates + n) (flip_size flipped part.output (k + length part.gates))

  -- the part is written, then the FLIP of its output if there is one
  pub ends : {w w₁ w₂ : Writer} (node node₂ : Node) → w.pen.next ≡ k → Writes w part.gates w₁ → node_is node ≡ part.output
      → Writes w₁ (ending flipped (node_is node) w₁.pen.next).gates w₂ → node_is node₂ ≡ (ending flipped (node_is node) w₁.pen.next).output
      → Writes w whole.gates w₂ × (node_is node₂ ≡ whole.output)
  ends node node₂ here first o last o₂ =
      let end = ap₂ (ending flipped) o (first.wrote.number ∙ ap (λ (n : ℕ). n + length part.gates) here) in (
        same_writes (ap (λ (t : segment.Segment). t.gates) (sym e)) (follows first (same_writes (ap (λ (t : segment.Segment). t.gates) end) last)),
        o₂ ∙ ap (λ (t : segment.Segment). t.output) end ∙ ap (λ (t : segment.Segment). t.output) (sym e),
      )

-- ---- as many gates, whichever side is subtracted

module _ (p : ℕ) (t : Tests) (law : Lawful p t) (c d : Condition) (same : c.digits ≡ d.digits) (k : ℕ) (some : 1 ≤ c.digits) where
  abbrev size_of : Condition → ℕ
  size_of by = length (order_segment t by k).gates

  same_size : size_of c ≡ size_of d
  unfolding order_segment
  same_size =
      let size = order_digit_size t in
      omega (
        arith,
        order_size p t law c some k,
        order_size p t law d (omega arith) k,
        ap (λ (n : ℕ). size * n) same,
        ap flog same,
      )

  pub either_room : (w : Writer) → HasRoom w (size_of c) → HasRoom w (size_of d)
  either_room w room = rw same_size at room

  pub either_moved : (pen pen₁ : Pen) → Moved pen (size_of c) pen₁ → Moved pen (size_of d) pen₁
  either_moved pen pen₁ moved = rw same_size at moved
