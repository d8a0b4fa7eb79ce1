-- The listing of a card (document 01, "Bench cards"): "The print program reads a card's raw bytes from standard input."
use Rattle.std.specs.Prelude.{ℕ, List, ◌++◌}
use Rattle.answer.specs.Outcome.{on_answer}
use Rattle.circuit.specs.Report.{report}
use Rattle.circuit.specs.Table.{Table}
use Rattle.query.specs.Reading.{read_card}
use Rattle.query.specs.Whole.{table_of}
use Rattle.listing.specs.Lines.{gate_lines, summary_line, refusal_line}

-- the report, then the gates from number 0 on
abbrev pub table_listing : Table → List ℕ
table_listing table = summary_line (report table) ++ gate_lines 0 table.gates

-- the listing of the card's table, or the line of the refusal: with room for every table Build refuses by a card's rules only
abbrev pub listing : List ℕ → List ℕ
listing bytes = on_answer (read_card bytes) refusal_line (λ card. table_listing (table_of card))
