-- The report on a table: "Success answers G, products, squares, cost, depth" (document 01, "Operations and what they turn away").
use Rattle.std.specs.Prelude.{length}
use Rattle.answer.specs.Report.{Report}
use Rattle.circuit.specs.Count as count
use Rattle.circuit.specs.Depth as deep
use Rattle.circuit.specs.Table.{Table}

abbrev pub report : Table → Report
report table = record {
  gates = length table.gates;
  products = count.products table.gates;
  squares = count.squares table.gates;
  cost = count.cost table.head.weight table.gates;
  depth = deep.depth table.gates;
}
