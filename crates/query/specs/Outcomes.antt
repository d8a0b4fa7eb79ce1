-- What Build and Forecast answer from the lent bytes (document 01, "Operations and what they turn away").
use Rattle.std.specs.Prelude.{ℕ, ◌+◌, ◌*◌, List, ◌++◌, ltb, length, drop}
use Rattle.answer.specs.Outcome.{Answer, refused, accepted, Outcome, unaltered, refuse, on_answer}
use Rattle.answer.specs.Report.{Report}
use Rattle.circuit.specs.Report.{report}
use Rattle.circuit.specs.Table.{Table, table_bytes}
use Rattle.query.specs.Reading.{read_card}
use Rattle.query.specs.Whole.{table_of}

-- the 8(G+1) bytes of a table
abbrev pub table_room : Table → ℕ
table_room table = 8 * (length table.gates + 1)

-- "last 11, table lent under 8(G+1) bytes. Success answers G, products, squares, cost, depth;
-- it fills exactly 8(G+1) bytes and no later one."
abbrev pub writing : List ℕ → Table → Outcome Report
writing lent table =
    refuse (ltb (length lent) (table_room table)) (unaltered lent 11)
    (record { answer = accepted (report table); lent = table_bytes table ++ drop (table_room table) lent })

-- Build
abbrev pub building : List ℕ → List ℕ → Outcome Report
building bytes lent = on_answer (read_card bytes) (unaltered lent) (λ card. writing lent (table_of card))

-- Forecast: "the same answers from the card only, without 11"
abbrev pub forecasting : List ℕ → Answer Report
forecasting bytes = on_answer (read_card bytes) refused (λ card. accepted (report (table_of card)))
