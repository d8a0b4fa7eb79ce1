-- The table of a card, whose order digits go by a step size or by none: what is asked before it is written, and what is then left.
use Rattle.std.specs.Prelude.{◌≡◌, List, ◌++◌, ℕ, ◌≤◌, length, drop}
use Rattle.answer.specs.Outcome.{accepted}
use Rattle.circuit.specs.Count.{count as count_of, is_product, is_square}
use Rattle.circuit.specs.Depth.{depth}
use Rattle.circuit.specs.Table.{Table, table_bytes, most_gates}
use Rattle.step.specs.Digit.{tests_by, Suits}
use Rattle.query.specs.Card.{Card}
use Rattle.query.specs.Outcomes.{table_room}
use Rattle.query.specs.Reading.{read_card}
use Rattle.query.specs.Whole.{table_by}
use Rattle.card.specs.Parts.{Summary, summary}
use Rattle.writer.specs.declared.Written.{Written}
use Rattle.draft.specs.Conditions.{Ready}

-- the table by a step size; 0 stands for none, and then it is document 01's
abbrev pub table_for : ℕ → Card → Table
table_for step card = table_by (tests_by card.prime step) card

-- bytes that are a card, what they say, a step size of its prime or none, the gate count of its table, lent bytes that have room for it,
-- and what order digits go by
pub record Drawable (bytes : List ℕ) (said : Summary) (step count : ℕ) (lent constants depths : List ℕ) : Type 0 where
  pub card : Card
  pub reads : read_card bytes ≡ accepted card
  pub says : said ≡ summary card
  pub suits : Suits card.prime step
  pub gates : count ≡ length (table_for step card).gates
  pub few : count ≤ most_gates
  pub room : table_room (table_for step card) ≤ length lent
  pub ready : Ready card.prime card.conditions constants depths

-- the lent bytes begin with the table and are as they were after it; its gates, products and squares are counted, each record for itself,
-- and its depth is that of the node
pub record Drawn (table : Table) (lent lent' : List ℕ) (written : Written) : Type 0 where
  pub leaves : lent' ≡ table_bytes table ++ drop (table_room table) lent
  pub number : written.pen.next ≡ length table.gates
  pub products : written.pen.products ≡ count_of is_product table.gates
  pub squares : written.pen.squares ≡ count_of is_square table.gates
  pub deep : written.node.depth ≡ depth table.gates

-- of the card that the bytes are
abbrev pub Draws : List ℕ → ℕ → List ℕ → List ℕ → Written → Type 0
Draws bytes step lent lent' written =
    (card : Card) → read_card bytes ≡ accepted card → Drawn (table_for step card) lent lent' written
