-- What is proved of step tables and of the two tables within a depth cap (document 02, E7), over every accepted plain card.
-- Proved in `proofs/StepTables.antt` and `proofs/Promises.antt`.
use Rattle.std.specs.Prelude.{◌≡◌, true, false, ◌↔◌, ◌⊎◌, ℕ, ◌≤◌, ◌<◌, length, drop}
use mathlib.Core.List.{List, [], ◌++◌, Permᴰ, map}
use Rattle.answer.specs.Outcome.{refused, accepted}
use Rattle.field.specs.Bit.{bit}
use Rattle.field.specs.Half.{half}
use Rattle.digits.specs.Number.{base}
use Rattle.circuit.specs.Count.{counted}
use Rattle.circuit.specs.Depth.{depths, depth}
use Rattle.circuit.specs.Meaning.{entry_at, output}
use Rattle.circuit.specs.Outcomes.{checking, running}
use Rattle.circuit.specs.Reading.{reading}
use Rattle.circuit.specs.Report.{report}
use Rattle.circuit.specs.Segment.{Node}
use Rattle.circuit.specs.Table.{Table, table_bytes, well_formed, most_gates}
use Rattle.circuit.specs.Tree.{Tree, leaves, height}
use Rattle.circuit.specs.Value.{values}
use Rattle.step.specs.Digit.{IsStep, step_tests}
use Rattle.query.specs.Card.{Card}
use Rattle.query.specs.Formulas.{depth_formula, cost_bound}
use Rattle.query.specs.Holds.{all_hold}
use Rattle.query.specs.Outcomes.{table_room, building}
use Rattle.query.specs.Promises.{LeftSide, RightSide, Built, output_gates}
use Rattle.query.specs.Reading.{read_plain}
use Rattle.query.specs.Whole.{filled_by, table_of}
use Rattle.offer.specs.Best.{Choice, nothing, chosen, IsBest}
use Rattle.offer.specs.Offer.{step_table, step_cost, step_depth, within, counts, best_step, Which, First, Second, Handed, Offer, offering}

-- ---- step tables, of any step size from 1 to (p-1)/2

-- "Demand 3's truth of the output covers both tables": the last gate is 1 exactly when all conditions hold, and 0 otherwise
abbrev pub StepAnswer : Type 0
StepAnswer =
    (bytes left right : List ℕ) (card : Card) (step : ℕ) → read_plain bytes ≡ accepted card → IsStep card.prime step
    → LeftSide card left → RightSide card right
    → output (values card.prime left right) (step_table card step).gates ≡ bit (all_hold (base card.prime) left right card.conditions)

-- they are tables: every rule of tables and of gates is kept, where there are no more gates than a table may have
abbrev pub StepFits : Type 0
StepFits =
    (bytes : List ℕ) (card : Card) (step : ℕ) → read_plain bytes ≡ accepted card → IsStep card.prime step
    → length (step_table card step).gates ≤ most_gates → well_formed (step_table card step) ≡ true

-- and every tree of two-way products over the same condition outputs, each used once, is at least as deep
abbrev pub StepTree : Type 0
StepTree =
    (bytes : List ℕ) (card : Card) (step : ℕ) (tree : Tree ℕ) → read_plain bytes ≡ accepted card → IsStep card.prime step
    → Permᴰ (leaves tree) (map (λ (f : Node). f.gate) (filled_by (step_tests card.prime step) card).outputs)
    → depth (step_table card step).gates ≤ height (entry_at depths (step_table card step).gates) tree

-- ---- the choice

-- "No k from 1 to (p-1)/2 within the cap costs less than the one chosen; equal costs go to lower depth, then lower k.", by E5's count
abbrev pub NoneCheaper : Type 0
NoneCheaper = (cap : ℕ) (card : Card) → IsBest (step_cost card) (step_depth card) (counts cap card) (half card.prime) (best_step cap card)

-- ---- what a call turns away

-- "With a refusal's number the part is empty"; every lent byte is then unaltered
abbrev pub OfferKeeps : Type 0
OfferKeeps =
    (bytes first second : List ℕ) (cap number : ℕ)
    → let offer = offering bytes cap first second in
    offer.answer ≡ refused number → (offer.first ≡ first) × (offer.second ≡ second) × (offer.part ≡ [])

-- neither the base table nor any step size's is within the cap
abbrev pub NoneWithin : ℕ → Card → Type 0
NoneWithin cap card = (within cap (table_of card) ≡ false) × ((step : ℕ) → IsStep card.prime step → counts cap card step ≡ false)

-- "29, neither the base table nor any k within the cap", exactly then
abbrev pub CapDecides : Type 0
CapDecides =
    (bytes first second : List ℕ) (cap : ℕ) (card : Card) → read_plain bytes ≡ accepted card
    → ((offering bytes cap first second).answer ≡ refused 29) ↔ NoneWithin cap card

-- which is where the base table is too deep: no step table is less deep than it, and that of k=1 is as deep
abbrev pub StepsNoShallower : Type 0
StepsNoShallower =
    (bytes : List ℕ) (card : Card) → read_plain bytes ≡ accepted card
    → ((step : ℕ) → IsStep card.prime step → depth (table_of card).gates ≤ step_depth card step)
    × (step_depth card 1 ≡ depth (table_of card).gates)

abbrev pub CapIsBase : Type 0
CapIsBase =
    (bytes first second : List ℕ) (cap : ℕ) (card : Card) → read_plain bytes ≡ accepted card
    → ((offering bytes cap first second).answer ≡ refused 29) ↔ (cap < depth (table_of card).gates)

-- no room in a lent table; where no step size is chosen only the first is asked
abbrev pub NoRoom : Choice → Card → List ℕ → List ℕ → Type 0
NoRoom nothing card first second = length first < table_room (table_of card)
NoRoom (chosen step) card first second = (length first < table_room (table_of card)) ⊎ (length second < table_room (step_table card step))

-- "before 11": 11 exactly for want of room in either, where the cap does not refuse
abbrev pub RoomInBoth : Type 0
RoomInBoth =
    (bytes first second : List ℕ) (cap : ℕ) (card : Card) → read_plain bytes ≡ accepted card → (NoneWithin cap card → ⊥)
    → ((offering bytes cap first second).answer ≡ refused 11) ↔ NoRoom (best_step cap card) card first second

-- ---- what an accepted call leaves

-- a call that is accepted, its card, and what it answers
pub record Offered (bytes first second : List ℕ) (cap : ℕ) (card : Card) (handed : Handed) : Type 0 where
  pub reads : read_plain bytes ≡ accepted card
  pub answers : (offering bytes cap first second).answer ≡ accepted handed

-- "The base table goes into the first": all its bytes are those that Build leaves there, so what is proved of Build's table is proved of it
abbrev pub FirstTable : Type 0
FirstTable =
    (bytes first second : List ℕ) (cap : ℕ) (card : Card) (handed : Handed) → Offered bytes first second cap card handed
    → ((offering bytes cap first second).first ≡ (building bytes first).lent) × Built bytes first card (report (table_of card)) (table_of card)

-- by name: demand 3's truth, "its depth and cost formulas the first"; "E5's fact about built tables is for the first alone too"
pub record BasePromises (card : Card) (table : Table) : Type 0 where
  pub truth : (left right : List ℕ) → LeftSide card left → RightSide card right
      → output (values card.prime left right) table.gates ≡ bit (all_hold (base card.prime) left right card.conditions)
  pub depth_is : depth table.gates ≡ depth_formula card
  pub no_shallower : (tree : Tree ℕ) → Permᴰ (leaves tree) (output_gates card)
      → depth table.gates ≤ height (entry_at depths table.gates) tree
  pub cost_within : (report table).cost ≤ cost_bound card
  pub all_count : counted table.gates ≡ table.gates

abbrev pub FirstPromises : Type 0
FirstPromises =
    (bytes first second : List ℕ) (cap : ℕ) (card : Card) (handed : Handed) (table : Table) → Offered bytes first second cap card handed
    → reading (offering bytes cap first second).first ≡ accepted table → BasePromises card table

-- "the best step size into the second. .. Bytes after either table are kept."; "If no k fits the cap the second buffer is not written"
abbrev pub SecondHolds : Choice → Card → List ℕ → List ℕ → Type 0
SecondHolds nothing card second left = left ≡ second
SecondHolds (chosen step) card second left =
    (left ≡ table_bytes (step_table card step) ++ drop (table_room (step_table card step)) second)
    × (reading left ≡ accepted (step_table card step))

abbrev pub SecondTable : Type 0
SecondTable =
    (bytes first second : List ℕ) (cap : ℕ) (card : Card) (handed : Handed) → Offered bytes first second cap card handed
    → SecondHolds (best_step cap card) card second (offering bytes cap first second).second

-- ---- the part handed back

-- the bytes of one of the two tables, from the start of the buffer that is told
abbrev pub lent_of : Which → Offer → List ℕ
lent_of First offer = offer.first
lent_of Second offer = offer.second

-- it is a table, the first of its buffer; "Build's answers for the table handed back come with it", and they are those of Check on the part
pub record IsPart (offer : Offer) (handed : Handed) (table : Table) : Type 0 where
  pub bytes : offer.part ≡ table_bytes table
  pub begins : lent_of handed.which offer ≡ offer.part ++ drop (length offer.part) (lent_of handed.which offer)
  pub told : handed.told ≡ report table
  pub checks : (later : List ℕ) → checking (offer.part ++ later) ≡ accepted handed.told

-- Run on the part tells whether all conditions hold
abbrev pub RunsRight : Card → List ℕ → Table → Type 0
RunsRight card part table =
    (later left right work : List ℕ) → LeftSide card left → RightSide card right → length table.gates ≤ length work
    → (running (part ++ later) left right work).answer ≡ accepted (bit (all_hold (base card.prime) left right card.conditions))

-- "that of the cheaper one within the cap": it is within, and neither the base table nor any step size's that is within costs less
pub record Cheapest (cap : ℕ) (card : Card) (handed : Handed) : Type 0 where
  pub fits : handed.told.depth ≤ cap
  pub base : within cap (table_of card) ≡ true → handed.told.cost ≤ (report (table_of card)).cost
  pub steps : (step : ℕ) → IsStep card.prime step → counts cap card step ≡ true → handed.told.cost ≤ step_cost card step

abbrev pub PartHanded : Type 0
PartHanded =
    (bytes first second : List ℕ) (cap : ℕ) (card : Card) (handed : Handed) → Offered bytes first second cap card handed
    → let offer = offering bytes cap first second in
    (table : Table) × IsPart offer handed table × RunsRight card offer.part table × Cheapest cap card handed
