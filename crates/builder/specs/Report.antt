-- The report on a table, from what was counted while it was written.
use Rattle.std.specs.Prelude.{ℕ}
use Rattle.answer.specs.Report.{Report, cost_of}
use Rattle.writer.specs.declared.Pen.{Pen}

-- the report that a pen and the depth of the last gate make
abbrev pub report_is : Pen → ℕ → ℕ → Report
report_is pen depth weight = record {
  gates = pen.next;
  products = pen.products;
  squares = pen.squares;
  cost = cost_of weight pen.products pen.squares;
  depth = depth;
}
