-- What Build answers and leaves is what a listing says, where there is room for every table: a report is that of the card's table,
-- whose records stand in the lent bytes, and a refusal is the card's.
-- Assumes nothing.
use Rattle.std.proofs.Common.{◌≡◌, refl, sym, ap, ◌∙◌, List, ◌++◌, ℕ, ◌+◌, ◌*◌, ◌≤◌, arith, length, drop, length-append}
use Rattle.answer.specs.Outcome.{Answer, refused, accepted, Outcome}
use Rattle.answer.specs.Report.{Report}
use Rattle.answer.proofs.Outcome.{refused≢accepted, accepted_same}
use Rattle.field.proofs.Primes.{listed_is_odd_prime}
use Rattle.circuit.specs.Report.{report}
use Rattle.circuit.specs.Table.{table_bytes, most_gates}
use Rattle.circuit.proofs.Reading.{table_length, after_head}
use Rattle.circuit.proofs.WellFormed.{well_formed_lem}
use Rattle.query.specs.Card.{Card}
use Rattle.query.specs.Outcomes.{table_room, building}
use Rattle.query.specs.Reading.{read_card}
use Rattle.query.specs.Whole.{table_of}
use Rattle.query.proofs.Building.{built}
use Rattle.query.proofs.Promises.{exact_size}
use Rattle.listing.specs.Lines.{summary_line, refusal_line}
use Rattle.listing.specs.Listing.{listing}
use Rattle.listing.specs.Records.{record_lines}
use Rattle.listing.proofs.Records.{lines_of}

-- the bytes left hold as many records as the report says, and the listing is the report's line and the records' lines
abbrev pub Listed : List ℕ → List ℕ → Report → Type 0
Listed bytes left told =
    (8 * (told.gates + 1) ≤ length left) × (listing bytes ≡ summary_line told ++ record_lines 0 told.gates (drop 8 left))

module _ (bytes lent : List ℕ) (room : 8 * (most_gates + 1) ≤ length lent) where
  outcome : (card : Card) → read_card bytes ≡ accepted card
      → building bytes lent
      ≡ record { answer = accepted (report (table_of card)); lent = table_bytes (table_of card) ++ drop (table_room (table_of card)) lent }
  outcome card e = built bytes lent card e (omega (arith, (exact_size bytes card e).1))

  pub lists_table : (told : Report) → accepted told ≡ (building bytes lent).answer → Listed bytes (building bytes lent).lent told
  lists_table told h = go (read_card bytes) refl
    where
      go : (read : Answer Card) → read_card bytes ≡ read → Listed bytes (building bytes lent).lent told
      go (refused number) e = absurd (refused≢accepted (sym (rw e at h)))
      go (accepted card) e =
          let table = table_of card in
          let later = drop (table_room table) lent in
          let b = outcome card e in
          let same : told ≡ report table = accepted_same (h ∙ ap (λ (o : Outcome Report). o.answer) b) in
          let size = length-append (table_bytes table) later in
          let formed = well_formed_lem table (exact_size bytes card e).2 in
          let prime = ((listed_is_odd_prime table.head.prime).0 formed.prime).high in
          let lines = ap (record_lines 0 (length table.gates)) (after_head table later)
          ∙ lines_of table.head (omega arith) 0 table.gates later formed.fitted in
          rw (same, b) (
            omega (arith, size, table_length table),
            rw e (ap (λ (text : List ℕ). summary_line (report table) ++ text) (sym lines)),
          )

  pub lists_refusal : (number : ℕ) → refused number ≡ (building bytes lent).answer → listing bytes ≡ refusal_line number
  lists_refusal number h = go (read_card bytes) refl
    where
      go : (read : Answer Card) → read_card bytes ≡ read → listing bytes ≡ refusal_line number
      go (refused n) e = rw e (ap refusal_line (let same : refused number ≡ refused n = rw e at h in cc))
      go (accepted card) e = absurd (refused≢accepted (h ∙ ap (λ (o : Outcome Report). o.answer) (outcome card e)))
