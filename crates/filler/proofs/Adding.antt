-- What add answers and leaves, from the tests on the way and from what was written.
-- Assumes nothing.
use mathlib.Core.Path.{◌≡◌, sym, ap, ◌∙◌}
use mathlib.Core.Bool.{true, false}
use mathlib.Core.List.{List}
use Prim.Native.Nat.{ℕ, ◌+◌, ◌*◌, ◌≤◌, ◌<◌}
use native.Mathlib.Omega.{arith}
use borrow.Author.Tests.{le-ltb, lt-ltb, le-leb, lt-leb, eq-eqb, eqb-true, ne_eqb}
use lib.Dec.{eqb}
use lib.ListN.{length}
use lib.Seq.{sets}
use Rattle.answer.specs.Outcome.{refused, accepted}
use Rattle.field.proofs.Tests.{in_range, both}
use Rattle.digits.specs.Number.{most_digits}
use Rattle.circuit.specs.Segment as segment
use Rattle.circuit.specs.Table.{head_bytes, gates_bytes, most_gates}
use Rattle.circuit.proofs.Bounds.{counts_below}
use Rattle.comparison.specs.Condition.{Condition}
use Rattle.comparison.specs.Formulas.{condition_size}
use Rattle.comparison.specs.Relation.{Relation}
use Rattle.comparison.specs.Writing.{condition_segment}
use Rattle.comparison.proofs.Condition.{condition_sized}
use Rattle.query.specs.Card.{most_conditions}
use Rattle.query.specs.Form.{Plain, condition_at, takes_next}
use Rattle.query.specs.Reading.{read_condition}
use Rattle.query.proofs.OverConditions.{size_within}
use Rattle.query.proofs.Reading.{says}
use Rattle.filling.specs.Filling.{unchanged, settled, head_of, added_to, adding_condition, adding}
use Rattle.filling.specs.State.{BuildState, is_closed}
use Rattle.writer.specs.Pen.{laid, Wrote}
use Rattle.writer.specs.declared.Pen.{Pen}
use Rattle.state.specs.State.{pen_of, grown}
use Rattle.state.proofs.Open.{Open, open_facts}
use Rattle.filler.specs.Steps.{condition_next, added_bytes, Addable}

-- ---- the rules before a record is read

-- "31 .. before all else; 30, a ninth condition, next"; "7 for a length not 4, then 2, 8, 9"
pub add_closed : (s : BuildState) (bytes table : List ℕ) → is_closed s ≡ true → adding s bytes table ≡ unchanged s table 31
add_closed s bytes table closed = rw closed

module _ (s : BuildState) (bytes table : List ℕ) (closed : is_closed s ≡ false) where
  pub add_ninth : most_conditions ≤ length s.outputs → adding s bytes table ≡ unchanged s table 30
  add_ninth most = rw (closed, le-leb most_conditions (length s.outputs) most)

  module _ (few : length s.outputs < most_conditions) where
    pub add_length : (length bytes ≡ 4 → ⊥) → adding s bytes table ≡ unchanged s table 7
    add_length wrong = rw (closed, lt-leb most_conditions (length s.outputs) few, ne_eqb (length bytes) 4 wrong)

    pub add_refused : (number : ℕ) → length bytes ≡ 4 → read_condition Plain s.prime s.slots bytes ≡ refused number
        → adding s bytes table ≡ unchanged s table number
    add_refused number four read = rw (closed, lt-leb most_conditions (length s.outputs) few, eq-eqb (length bytes) 4 four, read)

    pub add_read : (c : Condition) → length bytes ≡ 4 → read_condition Plain s.prime s.slots bytes ≡ accepted c
        → adding s bytes table ≡ adding_condition s table c
    add_read c four read = rw (closed, lt-leb most_conditions (length s.outputs) few, eq-eqb (length bytes) 4 four, read)

-- conditions with the same relation, digits, slots and weight
condition_same : {l l' m m' w w' n : ℕ} {r : Relation} → l ≡ l' → m ≡ m' → w ≡ w' → condition_at l m r n w ≡ condition_at l' m' r n w'
condition_same left right weight = cc

-- the condition of a plain record takes the next slots on both sides, weighs nothing, and has from 1 to 16 digits
pub read_next : (s : BuildState) (bytes : List ℕ) (c : Condition) → read_condition Plain s.prime s.slots bytes ≡ accepted c
    → (c ≡ condition_next s c.relation c.digits) × (1 ≤ c.digits) × (c.digits ≤ most_digits)
read_next s bytes c read =
    let said = says Plain s.prime s.slots bytes c read in
    let digits = in_range c.digits 1 most_digits said.count in
    let kept = both (takes_next s.slots c) _ said.tail.kept in
    let sides = both (eqb c.left s.slots) _ kept.0 in
    let same = condition_same (eqb-true c.left s.slots sides.0) (eqb-true c.right s.slots sides.1) (eqb-true c.weight 0 kept.1) in
    (same, digits.0, digits.1)

-- ---- a condition that was read

-- "10"
pub add_over : (s : BuildState) (c : Condition) (table : List ℕ) → most_digits < s.slots + c.digits → adding_condition s table c ≡ unchanged s table 10
add_over s c table over = rw (lt-ltb most_digits (s.slots + c.digits) over)

-- it has so many gates, wherever they are written
gates_sized : (s : BuildState) (c : Condition) (size k : ℕ) → is_closed s ≡ false → 1 ≤ c.digits → size ≡ condition_size s.prime c
    → length (condition_segment s.prime c k).gates ≡ size
gates_sized s c size k closed some sized =
    let prime = (open_facts s closed).prime in condition_sized s.prime k c prime.low prime.odd some ∙ sym sized

-- "and 11 where its gates do not fit"
pub add_short : (s : BuildState) (c : Condition) (size : ℕ) (table : List ℕ) → is_closed s ≡ false → 1 ≤ c.digits → size ≡ condition_size s.prime c
    → s.slots + c.digits ≤ most_digits → length table < 8 * (s.gates + size + 1) → adding_condition s table c ≡ unchanged s table 11
add_short s c size table closed some sized slots short =
    let own = (condition_segment s.prime c s.gates).gates in
    let long = gates_sized s c size s.gates closed some sized in
    rw (le-ltb most_digits (s.slots + c.digits) slots, lt-ltb (length table) (8 * (s.gates + length own + 1)) (omega (arith, short, long)))

-- ---- a condition that there is room for

module _ {s : BuildState} {count : ℕ} {c : Condition} {size : ℕ} {table : List ℕ} (a : Addable s count c size table) where
  abbrev own : segment.Segment
  own = condition_segment s.prime c s.gates

  abbrev facts : Open s
  facts = open_facts s a.takes.is_open

  pub own_size : (k : ℕ) → length (condition_segment s.prime c k).gates ≡ size
  own_size k = gates_sized s c size k a.takes.is_open a.takes.digits.0 a.sized

  pub add_settled : adding_condition s table c ≡ settled (added_to s c) (added_bytes s c table)
  add_settled =
      rw (
        le-ltb most_digits (s.slots + c.digits) a.slots,
        le-ltb (length table) (8 * (s.gates + length own.gates + 1)) (omega (arith, a.room, own_size s.gates)),
      )

  -- the gates after it are few enough
  pub few_gates : s.gates + size ≤ most_gates
  few_gates =
      let prime = facts.prime in
      omega (arith, size_within s.prime c prime.low prime.odd prime.high a.takes.digits.0, a.sized, facts.gates, a.slots)

  -- from what was written
  module _ {pen pen₂ : Pen} {table₁ table₂ : List ℕ} (same : pen ≡ pen_of s)
      (wrote : Wrote table₁ pen (condition_segment s.prime c pen.next).gates table₂ pen₂) where
    written : Wrote table₁ (pen_of s) own.gates table₂ pen₂
    written = rw same at wrote

    -- a gate is a product, a square or neither
    pub condition_counts : (pen₂.products ≤ most_gates) × (pen₂.squares ≤ most_gates)
    condition_counts =
        let all = counts_below own.gates in
        let few : s.gates + length own.gates ≤ most_gates = omega (arith, few_gates, own_size s.gates) in
        (omega (arith, written.products, all, few, facts.counts), omega (arith, written.squares, all, few, facts.counts))

    pub condition_added : {node : segment.Node} → node ≡ (condition_segment s.prime c pen.next).output → grown s c.digits pen₂ node ≡ added_to s c
    condition_added output = rw (written.number, written.products, written.squares, output, same)

    pub condition_leaves : table₁ ≡ sets table 0 (head_bytes (head_of s.prime s.weight (s.slots + c.digits)) (s.gates + size))
        → table₂ ≡ added_bytes s c table
    unfolding laid
    condition_leaves head =
        written.bytes
        ∙ ap (λ (t : List ℕ). sets t (8 * (s.gates + 1)) (gates_bytes own.gates))
        (head
        ∙ ap (λ (k : ℕ). sets table 0 (head_bytes (head_of s.prime s.weight (s.slots + c.digits)) (s.gates + k))) (sym (own_size s.gates)))
