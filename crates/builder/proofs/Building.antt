-- From the table that was written to what Build answers and leaves: every gate of a built table counts, so the counts of its records are
-- the report's. Room is compared with the forecast gate count, which is the table's.
-- Assumes nothing.
use mathlib.Core.Path.{◌≡◌, refl, sym, ap, subst, ◌∙◌}
use mathlib.Core.Bool.{true}
use mathlib.Core.List.{List}
use Prim.Native.Nat.{ℕ, ◌+◌, ◌*◌, ◌≤◌, ◌<◌, zero-le}
use native.Mathlib.Omega.{arith}
use borrow.Author.Tests.{lt-ltb}
use lib.Dec.{ltb}
use lib.ListN.{length}
use Rattle.answer.specs.Outcome.{refused, accepted}
use Rattle.answer.specs.Report.{Report}
use Rattle.answer.proofs.Outcome.{was_refused, accepted_same}
use Rattle.circuit.specs.Report.{report}
use Rattle.circuit.specs.Table.{most_gates}
use Rattle.circuit.proofs.Bounds.{counts_below}
use Rattle.query.specs.Card.{Card}
use Rattle.query.specs.Outcomes.{table_room, building, forecasting}
use Rattle.query.specs.Reading.{read_card}
use Rattle.query.specs.Whole.{table_of}
use Rattle.query.proofs.BuiltCounted.{built_counts}
use Rattle.query.proofs.Building.{built}
use Rattle.query.proofs.Promises.{exact_size}
use Rattle.card.specs.declared.CardHead.{CardHead}
use Rattle.card.specs.Conditions.{ReadAs, conditions_of}
use Rattle.card.specs.Parts.{Summary, summary, head_is, read_summary}
use Rattle.card.proofs.ReadAs.{Known, known_as}
use Rattle.writer.specs.declared.Written.{Written}
use Rattle.draft.specs.Conditions.{Ready}
use Rattle.draft.specs.Drawing.{Drawable, Drawn, Draws}
use Rattle.builder.specs.Report.{report_is}

-- the report on the table of a card that was written
reported : (bytes : List ℕ) (card : Card) → read_card bytes ≡ accepted card → {lent lent' : List ℕ} {written : Written}
    → Drawn (table_of card) lent lent' written → report_is written.pen written.node.depth card.weight ≡ report (table_of card)
reported bytes card e d =
    let same = built_counts bytes card e in
    rw (d.number, d.products ∙ sym same.0, d.squares ∙ sym same.1, d.deep)

-- ---- in the terms of the code, which holds what the card says and what is forecast

module _ (bytes lent : List ℕ) (head : CardHead) (told : Report) (e : ReadAs bytes head) (f : accepted told ≡ forecasting bytes) where
  abbrev read : Known bytes head
  read = known_as bytes head e

  -- the gate count that was forecast is that of its table
  gates_told : told.gates ≡ length (table_of read.card).gates
  gates_told = ap (λ (r : Report). r.gates) (accepted_same (rw read.reads at f))

  module _ (room : 8 * (told.gates + 1) ≤ length lent) where
    room_told : table_room (table_of read.card) ≤ length lent
    room_told = omega (arith, room, gates_told)

    pub drawable : {constants depths : List ℕ} → Ready head.prime (conditions_of bytes) constants depths → Drawable bytes (head_is head) 0 told.gates lent constants depths
    drawable {constants} {depths} ready = record {
      card = read.card;
      reads = read.reads;
      says = read.says;
      suits = record { low = zero-le };
      gates = gates_told;
      few = omega (arith, gates_told, (exact_size bytes read.card read.reads).1);
      room = room_told;
      ready =
          subst (λ (s : Summary). Ready s.prime read.card.conditions constants depths) read.says (rw read.conditions at ready);
    }

    -- what was written is the card's table
    module _ {lent' : List ℕ} {written : Written} (draws : Draws bytes 0 lent lent' written) where
      drawn : Drawn (table_of read.card) lent lent' written
      drawn = draws read.card read.reads

      pub answers : accepted (report_is written.pen written.node.depth head.weight) ≡ (building bytes lent).answer
      answers =
          rw (built bytes lent read.card read.reads room_told)
          (ap (λ (s : Summary). accepted (report_is written.pen written.node.depth s.weight)) read.says
          ∙ ap accepted (reported bytes read.card read.reads drawn))

      pub leaves : lent' ≡ (building bytes lent).lent
      leaves = rw (built bytes lent read.card read.reads room_told) drawn.leaves

      -- a gate is a product, a square or neither
      pub counts : written.pen.products + written.pen.squares ≤ most_gates
      counts =
          omega (arith, drawn.products, drawn.squares, counts_below (table_of read.card).gates, (exact_size bytes read.card read.reads).1)

  -- "last 11, table lent under 8(G+1) bytes"
  pub no_room : length lent < 8 * (told.gates + 1) → (refused 11 ≡ (building bytes lent).answer) × (lent ≡ (building bytes lent).lent)
  no_room short =
      let less : length lent < table_room (table_of read.card) = omega (arith, short, gates_told) in
      let under : ltb (length lent) (table_room (table_of read.card)) ≡ true = lt-ltb _ _ less in
      rw (read.reads, under) (refl, refl)

-- a card that is refused leaves the lent bytes as they are
pub refused_too : (bytes lent : List ℕ) (number : ℕ) → refused number ≡ read_summary bytes
    → (refused number ≡ (building bytes lent).answer) × (lent ≡ (building bytes lent).lent)
refused_too bytes lent number e = rw (was_refused number (read_card bytes) summary e) (refl, refl)
