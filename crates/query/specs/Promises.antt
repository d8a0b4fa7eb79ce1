-- Demand 3: what is proved of the table of every accepted card, whatever its p, s, c, and the relation and digit count of each condition.
-- Document 01, "Whole card": "a card is accepted where none of Build's numbers but perhaps 11 turns it away",
-- so where `read_card` accepts its bytes. Document 02, E1: "Plain cards keep the yes-or-no claim and demand 3's depth; score cards get
-- the sum and this depth in their place, and the cost claim covers both." The sum is in `ScorePromises`. E6, of shared cards: "Demand 3 holds
-- for these cards too."; they ask for a yes or no, and their left slot count is in `SharedPromises`.
-- Proved in `proofs/Promises.antt`.
use Rattle.std.specs.Prelude.{◌≡◌, true, ℕ, suc, ◌≤◌, length}
use mathlib.Core.List.{List, ◌++◌, map, Permᴰ}
use Rattle.answer.specs.Outcome.{accepted}
use Rattle.answer.specs.Report.{Report}
use Rattle.field.specs.Bit.{bit}
use Rattle.digits.specs.Number.{base, all_below}
use Rattle.circuit.specs.Count.{products, squares, cost}
use Rattle.circuit.specs.Depth.{depths, depth}
use Rattle.circuit.specs.Every.{Every}
use Rattle.circuit.specs.Gate.{Gate}
use Rattle.circuit.specs.Meaning.{entry_at, output}
use Rattle.circuit.specs.Outcomes.{checking, trimming, running}
use Rattle.circuit.specs.Reading.{reading}
use Rattle.circuit.specs.Report.{report}
use Rattle.circuit.specs.Segment.{Node, Segment}
use Rattle.circuit.specs.Table.{Table, left_slots, right_slots, table_bytes, well_formed, most_gates}
use Rattle.circuit.specs.Tree.{Tree, leaves, height}
use Rattle.circuit.specs.TreePromises.{TwoLeast}
use Rattle.circuit.specs.Value.{values}
use Rattle.comparison.specs.Condition.{Condition}
use Rattle.comparison.specs.Formulas.{condition_cost, cost_summand}
use Rattle.comparison.specs.Relation.{is_order}
use Rattle.query.specs.Card.{Card, AsksYesOrNo}
use Rattle.query.specs.Formulas.{gate_count, last_gates, depth_formula, product_count, square_count, cost_sum, cost_bound, numbers_of}
use Rattle.query.specs.Holds.{all_hold}
use Rattle.query.specs.Outcomes.{table_room, building, forecasting}
use Rattle.query.specs.Reading.{read_card}
use Rattle.query.specs.Whole.{end_of, filled, table_of}

abbrev pub gates_of : Card → List Gate
gates_of card = (table_of card).gates

-- "A record is a left list and a query a right list, of the length that 18 asks.", here with digits below (p+1)/2;
-- that length is the table's slot count of the side: "17 and 18 read each side against its own count" (document 02, E6)
abbrev pub Side : Card → ℕ → List ℕ → Type 0
Side card slots side = (length side ≡ slots) × (all_below (base card.prime) side ≡ true)

abbrev pub LeftSide : Card → List ℕ → Type 0
LeftSide card left = Side card (left_slots (table_of card).head) left

abbrev pub RightSide : Card → List ℕ → Type 0
RightSide card right = Side card (right_slots (table_of card).head) right

-- a. "For every record and query with digits below (p+1)/2, the last gate of the card's table is 1 exactly when all conditions hold
-- of the two sides' numbers, and 0 otherwise."
abbrev pub RightAnswer : Type 0
RightAnswer =
    (bytes left right : List ℕ) (card : Card) → read_card bytes ≡ accepted card → AsksYesOrNo card
    → LeftSide card left → RightSide card right
    → output (values card.prime left right) (gates_of card) ≡ bit (all_hold (base card.prime) left right card.conditions)

-- b. "It is exactly ceil(log2(p-1)) + ceil(log2(the sum over the conditions of 2^ceil(log2 n)))."; of a score card
-- "Its depth is D plus the largest ceil(log2 n)."
abbrev pub ExactDepth : Type 0
ExactDepth = (bytes : List ℕ) (card : Card) → read_card bytes ≡ accepted card → depth (gates_of card) ≡ depth_formula card

-- the condition outputs
abbrev pub output_gates : Card → List ℕ
output_gates card = map (λ (f : Node). f.gate) (filled card).outputs

-- "A condition's output is the last gate that it writes.": each condition's gates follow those before it, as many as document 01 counts
abbrev pub OutputsAreLast : Type 0
OutputsAreLast =
    (bytes : List ℕ) (card : Card) → read_card bytes ≡ accepted card
    → output_gates card ≡ last_gates card.prime 0 card.conditions

-- what the table ends with, after the gates of the conditions
abbrev pub ended : Card → Segment
ended card = end_of card (filled card)

-- "then the product tree over their outputs", by the rule for product trees
abbrev pub CardTree : Type 0
CardTree =
    (bytes : List ℕ) (card : Card) → read_card bytes ≡ accepted card → AsksYesOrNo card
    → TwoLeast (length (filled card).gates) (filled card).outputs (ended card).gates (ended card).output

-- the card's output, which the product tree over the condition outputs or their sum leaves, is the table's last gate,
-- and its node tells the table's depth
abbrev pub CardOutput : Type 0
CardOutput =
    (bytes : List ℕ) (card : Card) → read_card bytes ≡ accepted card
    → (suc (ended card).output.gate ≡ length (gates_of card)) × ((ended card).output.depth ≡ depth (gates_of card))

-- c. "Every other tree of two-way products over the same condition outputs, each used once, is at least as deep as the table.":
-- any tree whose leaves are all outputs, each once, in any order; a single output is as deep as its gate
abbrev pub NoShallowerTree : Type 0
NoShallowerTree =
    (bytes : List ℕ) (card : Card) (tree : Tree ℕ) → read_card bytes ≡ accepted card → AsksYesOrNo card
    → Permᴰ (leaves tree) (output_gates card)
    → depth (gates_of card) ≤ height (entry_at depths (gates_of card)) tree

-- d. "The reported cost is 100 for each product of two different gates plus s for each square in the table.": that is `cost`.
-- "It is at most 100(c-1) plus, for each condition, .."
abbrev pub BoundedCost : Type 0
BoundedCost =
    (bytes : List ℕ) (card : Card) → read_card bytes ≡ accepted card → cost card.weight (gates_of card) ≤ cost_bound card

-- of an order condition: its cost is exactly that summand
abbrev pub OrderPart : Card → Condition → Type 0
OrderPart card c =
    is_order c.relation ≡ true → condition_cost card.prime card.weight c ≡ cost_summand card.prime card.weight c.digits

-- the cost is that of the conditions and of the product tree, if there is one, and of each order condition exactly the summand,
-- whatever the others are
abbrev pub ExactCost : Type 0
ExactCost =
    (bytes : List ℕ) (card : Card) → read_card bytes ≡ accepted card
    → (cost card.weight (gates_of card) ≡ cost_sum card) × Every (OrderPart card) card.conditions

-- and whatever the conditions, products and squares are counted by formulas
abbrev pub ExactCounts : Type 0
ExactCounts =
    (bytes : List ℕ) (card : Card) → read_card bytes ≡ accepted card
    → (products (gates_of card) ≡ product_count card) × (squares (gates_of card) ≡ square_count card)

-- e. the gates are as many as the formula says, at most 8191, and the table keeps every rule
abbrev pub ExactSize : Type 0
ExactSize =
    (bytes : List ℕ) (card : Card) → read_card bytes ≡ accepted card
    → (length (gates_of card) ≡ gate_count card) × (length (gates_of card) ≤ most_gates) × (well_formed (table_of card) ≡ true)

-- f. "Reported is what Build answers, as do Forecast for the same card and Check for that table.": the same five numbers,
-- whatever stands after the table's bytes, so also in the bytes that Build leaves
abbrev pub SameReport : Type 0
SameReport =
    (bytes lent later : List ℕ) (card : Card) → read_card bytes ≡ accepted card → table_room (table_of card) ≤ length lent
    → ((building bytes lent).answer ≡ accepted (report (table_of card)))
    × (forecasting bytes ≡ accepted (report (table_of card)))
    × (checking (table_bytes (table_of card) ++ later) ≡ accepted (report (table_of card)))
    × (checking (building bytes lent).lent ≡ accepted (report (table_of card)))

-- and these are the formulas' numbers
abbrev pub ReportedNumbers : Type 0
ReportedNumbers = (bytes : List ℕ) (card : Card) → read_card bytes ≡ accepted card → report (table_of card) ≡ numbers_of card

-- Trim hands back exactly the table
abbrev pub TrimsToTable : Type 0
TrimsToTable =
    (bytes lent : List ℕ) (card : Card) → read_card bytes ≡ accepted card → table_room (table_of card) ≤ length lent
    → trimming (building bytes lent).lent ≡ table_bytes (table_of card)

-- "Run on that table, unaltered since, answers it unless 20 refuses.": on the table's bytes, whatever stands after them,
-- the last gate's value, for all values below p
abbrev pub RunsTheTable : Type 0
RunsTheTable =
    (bytes later left right work : List ℕ) (card : Card) → read_card bytes ≡ accepted card
    → length left ≡ left_slots (table_of card).head → length right ≡ right_slots (table_of card).head
    → all_below card.prime left ≡ true → all_below card.prime right ≡ true → length (gates_of card) ≤ length work
    → (running (table_bytes (table_of card) ++ later) left right work).answer
    ≡ accepted (output (values card.prime left right) (gates_of card))

-- so with digits below (p+1)/2 it answers, of a card that asks for a yes or no, whether all conditions hold
abbrev pub RightRun : Type 0
RightRun =
    (bytes later left right work : List ℕ) (card : Card) → read_card bytes ≡ accepted card → AsksYesOrNo card
    → LeftSide card left → RightSide card right → length (gates_of card) ≤ length work
    → (running (table_bytes (table_of card) ++ later) left right work).answer
    ≡ accepted (bit (all_hold (base card.prime) left right card.conditions))

-- Run on all that Build left, and on the part of it that Trim hands back, is Run on the table alone: the same answer and the same work bytes
abbrev pub SameRun : Type 0
SameRun =
    (bytes lent left right work : List ℕ) (card : Card) → read_card bytes ≡ accepted card → table_room (table_of card) ≤ length lent
    → let alone = running (table_bytes (table_of card)) left right work in
    (running (building bytes lent).lent left right work ≡ alone)
    × (running (trimming (building bytes lent).lent) left right work ≡ alone)

-- so from the card's bytes to the yes or no: Build, then Run, with Trim between them or without
abbrev pub BuiltRun : Type 0
BuiltRun =
    (bytes lent left right work : List ℕ) (card : Card) → read_card bytes ≡ accepted card → AsksYesOrNo card
    → table_room (table_of card) ≤ length lent
    → LeftSide card left → RightSide card right → length (gates_of card) ≤ length work
    → let answer = accepted (bit (all_hold (base card.prime) left right card.conditions)) in
    ((running (building bytes lent).lent left right work).answer ≡ answer)
    × ((running (trimming (building bytes lent).lent) left right work).answer ≡ answer)

-- Build's outcome on an accepted card, where it answers a report: that report, and the table in the bytes that it leaves.
-- `build` answers and leaves this outcome, so these are promises about `build`
abbrev pub Built : List ℕ → List ℕ → Card → Report → Table → Type 0
Built bytes lent card told table =
    (read_card bytes ≡ accepted card)
    × ((building bytes lent).answer ≡ accepted told)
    × (reading (building bytes lent).lent ≡ accepted table)

-- wherever there is room
abbrev pub BuildsWithRoom : Type 0
BuildsWithRoom =
    (bytes lent : List ℕ) (card : Card) → read_card bytes ≡ accepted card → table_room (table_of card) ≤ length lent
    → Built bytes lent card (report (table_of card)) (table_of card)

-- of a card that asks for a yes or no the value of the last gate is 1 exactly when all conditions hold, and 0 otherwise
abbrev pub BuiltValue : Type 0
BuiltValue =
    (bytes lent left right : List ℕ) (card : Card) (told : Report) (table : Table) → Built bytes lent card told table
    → AsksYesOrNo card → LeftSide card left → RightSide card right
    → output (values card.prime left right) table.gates ≡ bit (all_hold (base card.prime) left right card.conditions)

-- "The reported depth is the table's own. It is exactly ..", and every tree over the same outputs of a card that asks for a yes or no
-- is at least as deep
abbrev pub BuiltDepth : Type 0
BuiltDepth =
    (bytes lent : List ℕ) (card : Card) (told : Report) (table : Table) → Built bytes lent card told table
    → (told.depth ≡ depth table.gates)
    × (told.depth ≡ depth_formula card)
    × ((tree : Tree ℕ) → AsksYesOrNo card → Permᴰ (leaves tree) (output_gates card)
    → told.depth ≤ height (entry_at depths table.gates) tree)

-- "The reported cost is 100 for each product of two different gates plus s for each square in the table. It is at most .."
abbrev pub BuiltCost : Type 0
BuiltCost =
    (bytes lent : List ℕ) (card : Card) (told : Report) (table : Table) → Built bytes lent card told table
    → (told.products ≡ products table.gates)
    × (told.squares ≡ squares table.gates)
    × (told.cost ≡ cost card.weight table.gates)
    × (told.cost ≤ cost_bound card)
