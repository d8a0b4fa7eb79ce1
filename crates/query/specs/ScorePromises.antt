-- Document 02, E1: what is proved of the table of every accepted score card, beside what `Promises` has of every form:
-- its output is the score, as a number and not only modulo p; a changed condition moves it by its weight at most; and its depth.
-- Proved in `proofs/ScorePromises.antt`, and `OldWeights` in `proofs/Score.antt`.
use Rattle.std.specs.Prelude.{◌≡◌, ◌⊎◌, List, [], ◌∷◌, ◌++◌, map, ℕ, ◌+◌, ◌-◌, ◌≤◌, ◌<◌, length, get_or}
use Rattle.answer.specs.Outcome.{accepted}
use Rattle.answer.specs.Report.{Report}
use Rattle.field.specs.Logarithm.{clog}
use Rattle.digits.specs.Number.{base}
use Rattle.circuit.specs.Constant.{plus}
use Rattle.circuit.specs.Depth.{depth}
use Rattle.circuit.specs.Gate.{Gate, Scale}
use Rattle.circuit.specs.Meaning.{output}
use Rattle.circuit.specs.OldConstants.{old_gate}
use Rattle.circuit.specs.Outcomes.{trimming, running}
use Rattle.circuit.specs.Segment.{Node}
use Rattle.circuit.specs.Sums.{sum_from, largest}
use Rattle.circuit.specs.Table.{Table, table_bytes}
use Rattle.circuit.specs.Value.{values}
use Rattle.comparison.specs.Condition.{Condition}
use Rattle.query.specs.Card.{Card, AsksScore, total_weight}
use Rattle.query.specs.Holds.{score_of}
use Rattle.query.specs.Outcomes.{table_room, building}
use Rattle.query.specs.Promises.{gates_of, LeftSide, RightSide, Built}
use Rattle.query.specs.Reading.{read_card}
use Rattle.query.specs.Score.{weights_of, score_sum}
use Rattle.query.specs.Whole.{table_of}

-- "The output is the sum of the weights of the conditions that hold.": the last gate, for all digits below (p+1)/2
abbrev pub RightScore : Type 0
RightScore =
    (bytes left right : List ℕ) (card : Card) → read_card bytes ≡ accepted card → AsksScore card
    → LeftSide card left → RightSide card right
    → output (values card.prime left right) (gates_of card) ≡ score_of (base card.prime) left right card.conditions

-- two left lists differ in no slot but those of a condition
abbrev pub SameElsewhere : Condition → List ℕ → List ℕ → Type 0
SameElsewhere c left left' =
    (i : ℕ) → (i < c.left) ⊎ (c.left + c.digits ≤ i) → get_or left i 0 ≡ get_or left' i 0

-- two numbers are at most so much apart, whichever is the larger
abbrev pub Near : ℕ → ℕ → ℕ → Type 0
Near most x y = (x ≤ y + most) × (y ≤ x + most)

-- "With all digits below B, a change in one condition's left digits moves the score by at most that weight.": the table's output,
-- whatever the other conditions are
abbrev pub ScoreMoves : Type 0
ScoreMoves =
    (bytes left left' right : List ℕ) (card : Card) (before after : List Condition) (c : Condition)
    → read_card bytes ≡ accepted card → AsksScore card → card.conditions ≡ before ++ (c ∷ after)
    → LeftSide card left → LeftSide card left' → RightSide card right → SameElsewhere c left left'
    → Near c.weight (output (values card.prime left right) (gates_of card)) (output (values card.prime left' right) (gates_of card))

-- "Its depth is D plus the largest ceil(log2 n).": the table's own
abbrev pub ScoreDepth : Type 0
ScoreDepth =
    (bytes : List ℕ) (card : Card) → read_card bytes ≡ accepted card → AsksScore card
    → depth (gates_of card) ≡ clog (card.prime - 1) + largest (map (λ (c : Condition). clog c.digits) card.conditions)

-- Run on the table's bytes, whatever stands after them, answers the score
abbrev pub RightScoreRun : Type 0
RightScoreRun =
    (bytes later left right work : List ℕ) (card : Card) → read_card bytes ≡ accepted card → AsksScore card
    → LeftSide card left → RightSide card right → length (gates_of card) ≤ length work
    → (running (table_bytes (table_of card) ++ later) left right work).answer
    ≡ accepted (score_of (base card.prime) left right card.conditions)

-- so from the card's bytes to the score: Build, then Run, with Trim between them or without
abbrev pub BuiltScoreRun : Type 0
BuiltScoreRun =
    (bytes lent left right work : List ℕ) (card : Card) → read_card bytes ≡ accepted card → AsksScore card
    → table_room (table_of card) ≤ length lent
    → LeftSide card left → RightSide card right → length (gates_of card) ≤ length work
    → let answer = accepted (score_of (base card.prime) left right card.conditions) in
    ((running (building bytes lent).lent left right work).answer ≡ answer)
    × ((running (trimming (building bytes lent).lent) left right work).answer ≡ answer)

-- of Build's outcome, where it answers a report: the last gate of the table that it leaves is the score
abbrev pub BuiltScore : Type 0
BuiltScore =
    (bytes lent left right : List ℕ) (card : Card) (told : Report) (table : Table) → Built bytes lent card told table
    → AsksScore card → LeftSide card left → RightSide card right
    → output (values card.prime left right) table.gates ≡ score_of (base card.prime) left right card.conditions

-- "a change in one condition's left digits moves the score by at most that weight", from the card's bytes on: what two Runs answer
-- of the table that Build left, each on work bytes of its own
abbrev pub BuiltScoreMoves : Type 0
BuiltScoreMoves =
    (bytes lent left left' right work work' : List ℕ) (card : Card) (before after : List Condition) (c : Condition) (score score' : ℕ)
    → read_card bytes ≡ accepted card → AsksScore card → card.conditions ≡ before ++ (c ∷ after)
    → table_room (table_of card) ≤ length lent → length (gates_of card) ≤ length work → length (gates_of card) ≤ length work'
    → LeftSide card left → LeftSide card left' → RightSide card right → SameElsewhere c left left'
    → (running (building bytes lent).lent left right work).answer ≡ accepted score
    → (running (building bytes lent).lent left' right work').answer ≡ accepted score'
    → Near c.weight score score'

-- the scaled outputs with the constants that they had: "each condition's output is scaled by its weight"
unfoldable pub old_outputs : List ℕ → List Node → List Gate
old_outputs [] outputs = []
old_outputs (w ∷ ws) [] = []
old_outputs (w ∷ ws) (f ∷ fs) = Scale f.gate (plus w) ∷ old_outputs ws fs

-- a SCALE's b is "equal to the old constant modulo p" (document 02, E3): where the weights' total is below p, as 26 asks, the terms of a score
-- from gate number k on had the weights
abbrev pub OldWeights : Type 0
OldWeights =
    (p k : ℕ) (conditions : List Condition) (outputs : List Node) → total_weight conditions < p
    → map (old_gate p) (score_sum p conditions k outputs).gates ≡ sum_from k (old_outputs (weights_of conditions) outputs)
