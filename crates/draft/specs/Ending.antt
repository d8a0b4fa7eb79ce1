-- What ends the table of a card, over the conditions' outputs as the code holds them.
use Rattle.std.specs.Prelude.{◌≡◌, List, map, ℕ, length}
use Rattle.circuit.specs.Segment.{Segment}
use Rattle.query.specs.Form.{Question}
use Rattle.query.specs.Whole.{end_by}
use Rattle.card.specs.declared.CardHead.{CardHead}
use Rattle.card.specs.Conditions.{conditions_of}
use Rattle.writer.specs.Nodes.{node_is}
use Rattle.writer.specs.Writing.{HasRoom}
use Rattle.writer.specs.declared.Node.{Node}
use Rattle.writer.specs.declared.Pen.{Pen}
use Rattle.writer.specs.declared.Writer.{Writer}

-- what ends the table of a card that asks this, from where the pen stands
abbrev pub end_from : Question → List ℕ → CardHead → Pen → List Node → Segment
end_from q card head pen outputs = end_by q head.prime (conditions_of card) pen.next (map node_is outputs)

-- an output of each of a card's conditions, and room for so many gates
pub record Endable (head : CardHead) (size : ℕ) (out : Writer) (nodes : List Node) : Type 0 where
  pub room : HasRoom out size
  pub outputs : length nodes ≡ head.count
