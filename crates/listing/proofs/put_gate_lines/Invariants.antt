-- `listing::put_gate_lines` meets its contract. The loop's invariant: the lines of the first k records are put.
-- Assumes nothing.
use Rattle.std.proofs.Common.{drop}
use Rattle.text.specs.Putting.{Adds}
use Rattle.listing.specs.Records.{record_lines}
use Rattle.listing.proofs.put_gate_lines.Given as goal

abbrev pub invariant-loop-k : goal.invariant-loop-k
invariant-loop-k l = Adds l.initial.out (record_lines 0 l.k (drop 8 l.table)) l.out
