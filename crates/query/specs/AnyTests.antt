-- What is proved of the table of every accepted card by any lawful tests of its order digits; document 01's table is one of them.
-- Proved in `proofs/AnyTests.antt`.
use Rattle.std.specs.Prelude.{◌≡◌, true, ℕ, ◌+◌, ◌≤◌, length}
use mathlib.Core.List.{List, ◌++◌, map, Permᴰ}
use Rattle.answer.specs.Outcome.{accepted}
use Rattle.field.specs.Bit.{bit}
use Rattle.digits.specs.Number.{base}
use Rattle.circuit.specs.Depth.{depths, depth}
use Rattle.circuit.specs.Meaning.{entry_at, output}
use Rattle.circuit.specs.Outcomes.{running}
use Rattle.circuit.specs.Segment.{Node}
use Rattle.circuit.specs.Table.{table_bytes, all_fit, well_formed, most_gates}
use Rattle.circuit.specs.Tree.{Tree, leaves, height}
use Rattle.circuit.specs.Value.{values}
use Rattle.comparison.specs.Formulas.{test_gates}
use Rattle.comparison.specs.Lawful.{Lawful}
use Rattle.comparison.specs.Tests.{Tests}
use Rattle.query.specs.Card.{Card, AsksYesOrNo, AsksScore, over_conditions}
use Rattle.query.specs.Holds.{all_hold, truths, score_of}
use Rattle.query.specs.Promises.{LeftSide, RightSide}
use Rattle.query.specs.Reading.{read_card}
use Rattle.query.specs.Whole.{filled_by, table_by}

-- of a card that asks for a yes or no the last gate is 1 exactly when all conditions hold of the two sides' numbers, and 0 otherwise
abbrev pub LawfulAnswer : Type 0
LawfulAnswer =
    (bytes left right : List ℕ) (card : Card) (t : Tests) → read_card bytes ≡ accepted card → Lawful card.prime t
    → AsksYesOrNo card → LeftSide card left → RightSide card right
    → output (values card.prime left right) (table_by t card).gates
    ≡ bit (all_hold (base card.prime) left right card.conditions)

-- of a card that asks for a score it is the sum of the weights of the conditions that hold
abbrev pub LawfulScore : Type 0
LawfulScore =
    (bytes left right : List ℕ) (card : Card) (t : Tests) → read_card bytes ≡ accepted card → Lawful card.prime t
    → AsksScore card → LeftSide card left → RightSide card right
    → output (values card.prime left right) (table_by t card).gates ≡ score_of (base card.prime) left right card.conditions

-- the conditions' outputs have, one by one, the values of their conditions' truths: 1 where the condition holds, and 0 otherwise
abbrev pub LawfulOutputs : Type 0
LawfulOutputs =
    (bytes left right : List ℕ) (card : Card) (t : Tests) → read_card bytes ≡ accepted card → Lawful card.prime t
    → LeftSide card left → RightSide card right
    → map (λ (f : Node). entry_at (values card.prime left right) (table_by t card).gates f.gate) (filled_by t card).outputs
    ≡ truths (base card.prime) left right card.conditions

-- written by two tests the tables differ by the gates of their digits' tests alone
abbrev pub LawfulSizes : Type 0
LawfulSizes =
    (bytes : List ℕ) (card : Card) (t u : Tests) → read_card bytes ≡ accepted card → Lawful card.prime t → Lawful card.prime u
    → length (table_by t card).gates + over_conditions (test_gates u) card.conditions
    ≡ length (table_by u card).gates + over_conditions (test_gates t) card.conditions

-- the gates keep the rules of gates
abbrev pub LawfulFits : Type 0
LawfulFits =
    (bytes : List ℕ) (card : Card) (t : Tests) → read_card bytes ≡ accepted card → Lawful card.prime t
    → all_fit (table_by t card).head 0 (table_by t card).gates ≡ true

-- and they are a table's, where there are no more of them than a table may have
abbrev pub LawfulTable : Type 0
LawfulTable =
    (bytes : List ℕ) (card : Card) (t : Tests) → read_card bytes ≡ accepted card → Lawful card.prime t
    → length (table_by t card).gates ≤ most_gates → well_formed (table_by t card) ≡ true

-- on whose bytes Run answers, for digits below (p+1)/2, the last gate's value, whatever stands after them
abbrev pub LawfulRun : Type 0
LawfulRun =
    (bytes later left right work : List ℕ) (card : Card) (t : Tests) → read_card bytes ≡ accepted card → Lawful card.prime t
    → LeftSide card left → RightSide card right → length (table_by t card).gates ≤ most_gates → length (table_by t card).gates ≤ length work
    → (running (table_bytes (table_by t card) ++ later) left right work).answer
    ≡ accepted (output (values card.prime left right) (table_by t card).gates)

-- of a card that asks for a yes or no every tree of two-way products over the same condition outputs, each used once,
-- is at least as deep as the table
abbrev pub LawfulDepth : Type 0
LawfulDepth =
    (bytes : List ℕ) (card : Card) (t : Tests) (tree : Tree ℕ) → read_card bytes ≡ accepted card → Lawful card.prime t
    → AsksYesOrNo card → Permᴰ (leaves tree) (map (λ (f : Node). f.gate) (filled_by t card).outputs)
    → depth (table_by t card).gates ≤ height (entry_at depths (table_by t card).gates) tree

-- and by deeper tests the table is at least as deep
abbrev pub LawfulDeeper : Type 0
LawfulDeeper =
    (bytes : List ℕ) (card : Card) (t u : Tests) → read_card bytes ≡ accepted card → Lawful card.prime t → Lawful card.prime u
    → AsksYesOrNo card → t.less.depth ≤ u.less.depth → t.equal.depth ≤ u.equal.depth
    → depth (table_by t card).gates ≤ depth (table_by u card).gates
