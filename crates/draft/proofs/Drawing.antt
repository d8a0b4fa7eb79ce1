-- From what was written to the table of a card: the conditions' gates and what ends the table over their outputs are the table's gates,
-- and the pen's counts are theirs. By any lawful tests of order digits, which those of a step size and document 01's are.
-- Assumes nothing.
use mathlib.Core.Path.{◌≡◌, sym, ap, subst, ◌∙◌}
use mathlib.Core.List.{List}
use Prim.Native.Nat.{ℕ, suc, ◌+◌, ◌*◌, ◌≤◌}
use native.Mathlib.Omega.{arith}
use native.Mathlib.Nat.{zero-add}
use lib.ListN.{length, length-append}
use lib.Seq.{sets}
use Rattle.answer.specs.Outcome.{accepted}
use Rattle.answer.proofs.Outcome.{accepted_same}
use Rattle.circuit.specs.Segment as segment
use Rattle.circuit.specs.Table.{SlotCounts, Head, Table, head_bytes, most_gates}
use Rattle.circuit.proofs.Every.{every_map}
use Rattle.comparison.specs.Condition.{Condition}
use Rattle.comparison.specs.Lawful.{Lawful}
use Rattle.comparison.specs.Tests.{Tests}
use Rattle.step.specs.Digit.{tests_by, Suits}
use Rattle.step.proofs.Promises.{by_lawful}
use Rattle.query.specs.Card.{Card}
use Rattle.query.specs.Form.{Question, YesOrNo, Score, question_of}
use Rattle.query.specs.Formulas.{end_size}
use Rattle.query.specs.Outcomes.{table_room}
use Rattle.query.specs.Reading.{read_card}
use Rattle.query.specs.Whole.{Draft, end_by, end_of, filled_by, table_by}
use Rattle.query.proofs.AnyTests.{known, depth_told, end_has, outputs_low}
use Rattle.card.specs.Conditions.{conditions_of}
use Rattle.card.specs.Parts.{Summary, read_summary, slots_said}
use Rattle.writer.specs.declared.Pen.{Pen}
use Rattle.writer.specs.declared.Written.{Written}
use Rattle.writer.specs.Pen.{fresh, Wrote}
use Rattle.writer.proofs.Writing.{same_gates, then, whole}
use Rattle.tree.specs.Factors.{Shallow}
use Rattle.draft.specs.Conditions.{drafted, Ready}
use Rattle.draft.specs.Drawing.{table_for, Drawable, Drawn, Draws}

-- what ends a table has a gate for each output but one, at least
end_long : (q : Question) (n : ℕ) → n ≤ suc (end_size q n)
end_long YesOrNo n = omega arith
end_long Score n = omega arith

module _ (bytes : List ℕ) (card : Card) (e : read_card bytes ≡ accepted card) (t : Tests) (law : Lawful card.prime t) where
  abbrev cs : List Condition
  cs = card.conditions

  abbrev draft : Draft
  draft = filled_by t card

  abbrev table : Table
  table = table_by t card

  -- room for the conditions' gates and those after them
  sizes : length draft.gates + end_size (question_of card.form) (length cs) ≡ length table.gates
  sizes = omega (arith, length-append draft.gates (end_of card draft).gates, (end_has bytes card e t law).0)

  -- an output is no deeper than its gate's number, and the end's gates come after it
  shallow : length table.gates ≤ most_gates → Shallow (length cs) draft.outputs
  shallow few =
      let long = end_long (question_of card.form) (length cs) in
      every_map (λ (f : segment.Node) low. omega (arith, low, few, sizes, long)) draft.outputs (outputs_low bytes card e t law)

  -- what ends the table, from gate number k on
  abbrev end_at : ℕ → segment.Segment
  end_at k = end_by (question_of card.form) card.prime cs k draft.outputs

  module _ (lent table₂ table₃ : List ℕ) (pen : Pen) (written : Written) (room : table_room table ≤ length lent)
      (conditions : Wrote (sets lent 0 (head_bytes table.head (length table.gates))) fresh draft.gates table₂ pen)
      (end : Wrote table₂ pen (end_at pen.next).gates table₃ written.pen)
      (output : written.node.depth ≡ (end_at pen.next).output.depth) where
    next_is : pen.next ≡ length draft.gates
    next_is = conditions.number ∙ omega arith

    wrote : Wrote (sets lent 0 (head_bytes table.head (length table.gates))) fresh table.gates table₃ written.pen
    wrote = then conditions (same_gates (ap (λ (k : ℕ). (end_at k).gates) next_is) end)

    drawn : Drawn table lent table₃ written
    drawn = record {
      leaves = wrote.bytes ∙ whole table lent room;
      number = wrote.number ∙ zero-add _;
      products = wrote.products ∙ zero-add _;
      squares = wrote.squares ∙ zero-add _;
      deep = output ∙ ap (λ (k : ℕ). (end_at k).output.depth) next_is ∙ depth_told bytes card e t law;
    }

-- ---- the same in the terms of the code, which holds what the card says and the gate count

module _ {bytes : List ℕ} {said : Summary} {step count : ℕ} {lent constants depths : List ℕ}
    (b : Drawable bytes said step count lent constants depths) where
  abbrev head_of : SlotCounts → Head
  head_of slots = record { prime = said.prime; weight = said.weight; slots = slots }

  abbrev tests : Tests
  tests = tests_by b.card.prime step

  lawful : Lawful b.card.prime tests
  lawful =
      let prime = (known bytes b.card b.reads).prime in by_lawful b.card.prime step prime.low prime.odd b.suits.low

  -- the card was read so
  pub read_so : accepted said ≡ read_summary bytes
  read_so = rw (b.reads, b.says)

  pub suits_said : Suits said.prime step
  suits_said = rw b.says b.suits

  pub ready_said : Ready said.prime (conditions_of bytes) constants depths
  ready_said = rw (b.says, b.reads) b.ready

  abbrev draft_said : Draft
  draft_said = drafted said.prime step (conditions_of bytes)

  is_filled : draft_said ≡ filled_by tests b.card
  is_filled = rw (b.says, b.reads)

  -- room for the conditions, and for what comes after them
  pub room_said : (8 * (length draft_said.gates + end_size (question_of said.form) said.count + 1) ≤ length lent)
      × (length draft_said.gates + end_size (question_of said.form) said.count ≤ most_gates)
  room_said =
      let s = sizes bytes b.card b.reads tests lawful in
      let same = ap (λ (d : Draft). length d.gates) is_filled in
      let end = ap (λ (t : Summary). end_size (question_of t.form) t.count) b.says in
      (omega (arith, s, same, end, b.room), omega (arith, s, same, end, b.gates, b.few))

  -- ---- the outputs, and what ends the table over them

  -- by what the card says, over any outputs
  abbrev end_said : ℕ → List segment.Node → segment.Segment
  end_said k outputs = end_by (question_of said.form) said.prime (conditions_of bytes) k outputs

  module _ {factors : List segment.Node} (are : factors ≡ draft_said.outputs) where
    factors_are : factors ≡ (filled_by tests b.card).outputs
    factors_are = are ∙ ap (λ (d : Draft). d.outputs) is_filled

    pub shallow_said : {n : ℕ} → n ≡ said.count → Shallow n factors
    shallow_said many =
        rw (factors_are, many, b.says) (shallow bytes b.card b.reads tests lawful (omega (arith, b.gates, b.few)))

    pub draws_said : {table₁ table₂ table₃ : List ℕ} {slots : SlotCounts} {pen : Pen} {written : Written}
        → slots ≡ slots_said said → table₁ ≡ sets lent 0 (head_bytes (head_of slots) count)
        → Wrote table₁ fresh draft_said.gates table₂ pen
        → Wrote table₂ pen (end_said pen.next factors).gates table₃ written.pen
        → written.node.depth ≡ (end_said pen.next factors).output.depth
        → Draws bytes step lent table₃ written
    draws_said {table₂ = table₂} {table₃ = table₃} {pen = pen} {written = written} counts head conditions end output card e =
        let first : Wrote (sets lent 0 (head_bytes (table_for step b.card).head (length (table_for step b.card).gates))) fresh
        (filled_by tests b.card).gates table₂ pen
        = rw (head, counts, b.says, b.gates) at (same_gates (ap (λ (d : Draft). d.gates) is_filled) conditions) in
        let is : end_said pen.next factors ≡ end_at bytes b.card b.reads tests lawful pen.next = rw (factors_are, b.says, b.reads) in
        let second = same_gates (ap (λ (s : segment.Segment). s.gates) is) end in
        let third = output ∙ ap (λ (s : segment.Segment). s.output.depth) is in
        subst (λ (c : Card). Drawn (table_for step c) lent table₃ written) (accepted_same (sym b.reads ∙ e))
        (drawn bytes b.card b.reads tests lawful lent table₂ table₃ pen written b.room first second third)
