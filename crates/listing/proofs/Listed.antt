-- A listing says what Forecast answers: both go by the two cases of reading the card.
-- Assumes nothing.
use Rattle.std.proofs.Common.{◌≡◌, sym, ap, ◌++◌}
use Rattle.answer.specs.Report.{Report}
use Rattle.answer.proofs.Outcome.{accepted_same, was_refused}
use Rattle.circuit.specs.Report.{report}
use Rattle.query.specs.Card.{Card}
use Rattle.query.specs.Promises.{gates_of}
use Rattle.query.specs.Reading.{read_card}
use Rattle.query.specs.Whole.{table_of}
use Rattle.listing.specs.Lines.{gate_lines, summary_line}
use Rattle.listing.specs.Promises.{RefusalListed, TableListed}

pub refusal_listed : RefusalListed
refusal_listed bytes number e = rw (was_refused number (read_card bytes) (λ (card : Card). report (table_of card)) (sym e))

pub table_listed : TableListed
table_listed bytes card told read e =
    let same : report (table_of card) ≡ told = accepted_same (rw read at e) in
    rw read (ap (λ (r : Report). summary_line r ++ gate_lines 0 (gates_of card)) same)
