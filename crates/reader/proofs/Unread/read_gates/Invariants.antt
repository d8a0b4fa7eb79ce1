-- The invariant is `Deepens`: the depths of the k gates read so far, with the gates that are left to read, give the depth of the last one.
-- Assumes nothing.
use Rattle.std.proofs.Common.{drop}
use Rattle.circuit.specs.Reading.{read_gates}
use Rattle.records.specs.Head.{head_is}
use Rattle.reader.specs.Outline.{depth_in}
use Rattle.reader.proofs.ReadGates.{Deepens}
use Rattle.reader.proofs.Unread.read_gates.Given as goal

abbrev pub invariant-loop-k : goal.invariant-loop-k
invariant-loop-k l =
    let head = head_is l.self.head in
    Deepens head l.self.bytes.now l.self.count l.k l.depths (depth_in (read_gates head 0 l.self.count (drop 8 l.self.bytes.now)))
