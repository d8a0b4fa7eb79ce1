-- `draft::put_score` meets its contract. The invariant is `Adds`: the terms that are left to write give the whole sum.
-- Assumes nothing.
use Rattle.std.proofs.Common.{map}
use Rattle.card.specs.Conditions.{conditions_of}
use Rattle.writer.specs.Nodes.{node_is}
use Rattle.draft.proofs.Scoring.{Adds}
use Rattle.draft.proofs.put_score.Given as goal

abbrev pub invariant-loop-k : goal.invariant-loop-k
invariant-loop-k l =
    Adds l.card.head.prime (conditions_of l.card.bytes.now) (map node_is l.outputs) l.initial.out l.initial.sum l.out l.sum l.k
