-- What is answered, written and handed back for a plain card, a depth cap and two lent tables (document 02, E7).
use Rattle.std.specs.Prelude.{ℕ, Bool, true, false, not, ◌&&◌, List, [], ◌++◌, ltb, leb, length, drop}
use Rattle.answer.specs.Outcome.{Answer, refused, accepted, refuse, on_answer}
use Rattle.answer.specs.Report.{Report}
use Rattle.field.specs.Half.{half}
use Rattle.circuit.specs.Report.{report}
use Rattle.circuit.specs.Table.{Table, table_bytes, most_gates}
use Rattle.step.specs.Digit.{step_tests}
use Rattle.query.specs.Card.{Card}
use Rattle.query.specs.Outcomes.{table_room}
use Rattle.query.specs.Reading.{read_plain}
use Rattle.query.specs.Whole.{table_of, table_by}
use Rattle.offer.specs.Best.{Choice, nothing, chosen, best_of}

-- ---- the best step size

-- the table for a step size: "One k serves a whole card"
abbrev pub step_table : Card → ℕ → Table
step_table card step = table_by (step_tests card.prime step) card

-- "Cost is E5's count."
abbrev pub step_cost : Card → ℕ → ℕ
step_cost card step = (report (step_table card step)).cost

abbrev pub step_depth : Card → ℕ → ℕ
step_depth card step = (report (step_table card step)).depth

-- within the cap: the table is no deeper
abbrev pub within : ℕ → Table → Bool
within cap table = leb (report table).depth cap

-- a step size counts whose table is within the cap, and a table at all: "gate count G as u16 (1 to 8191)" (document 01, "Gate table")
abbrev pub counts : ℕ → Card → ℕ → Bool
counts cap card step = within cap (step_table card step) && leb (length (step_table card step).gates) most_gates

-- "the best step size", of those from 1 to (p-1)/2
abbrev pub best_step : ℕ → Card → Choice
best_step cap card = best_of (step_cost card) (step_depth card) (counts cap card) (half card.prime)

-- ---- what a call leaves

-- of which lent table the part is
pub data Which : Type 0 where
  First : Which
  Second : Which

-- "Build's answers for the table handed back"
pub record Handed : Type 0 where
  pub which : Which
  pub told : Report

-- the answer, all bytes of both lent tables, and the part handed back
pub record Offer : Type 0 where
  pub answer : Answer Handed
  pub first : List ℕ
  pub second : List ℕ
  pub part : List ℕ

-- "With a refusal's number the part is empty"; every lent byte is unaltered
abbrev pub nothing_done : List ℕ → List ℕ → ℕ → Offer
nothing_done first second number = record { answer = refused number; first = first; second = second; part = [] }

-- a table at the start of lent bytes: "Bytes after either table are kept."
abbrev pub laid_over : Table → List ℕ → List ℕ
laid_over table lent = table_bytes table ++ drop (table_room table) lent

-- no room for a table
abbrev pub too_short : Table → List ℕ → Bool
too_short table lent = ltb (length lent) (table_room table)

-- "If no k fits the cap the second buffer is not written"; "29, neither the base table nor any k within the cap, before 11"
abbrev pub base_alone : ℕ → Table → List ℕ → List ℕ → Offer
base_alone cap base first second =
    refuse (not (within cap base)) (nothing_done first second 29)
    (refuse (too_short base first) (nothing_done first second 11)
    (record {
      answer = accepted (record { which = First; told = report base });
      first = laid_over base first;
      second = second;
      part = table_bytes base;
    }))

-- "the part handed back is that of the cheaper one within the cap, ties to the first"; the second is within it
abbrev pub takes_first : ℕ → Table → Table → Bool
takes_first cap base other = within cap base && leb (report base).cost (report other).cost

abbrev pub which_of : Bool → Which
which_of true = First
which_of false = Second

abbrev pub handed_back : Which → Table → Table → Table
handed_back First base other = base
handed_back Second base other = other

-- which table, and "Build's answers" for it
abbrev pub handed_of : ℕ → Table → Table → Handed
handed_of cap base other =
    let which = which_of (takes_first cap base other) in record { which = which; told = report (handed_back which base other) }

-- "The base table goes into the first, the best step size into the second"; "otherwise 11 reads both buffers"
abbrev pub both_tables : ℕ → Table → Table → List ℕ → List ℕ → Offer
both_tables cap base other first second =
    refuse (too_short base first) (nothing_done first second 11)
    (refuse (too_short other second) (nothing_done first second 11)
    (record {
      answer = accepted (handed_of cap base other);
      first = laid_over base first;
      second = laid_over other second;
      part = table_bytes (handed_back (handed_of cap base other).which base other);
    }))

-- by the choice of a step size
abbrev pub offer_by : ℕ → Card → List ℕ → List ℕ → Choice → Offer
offer_by cap card first second nothing = base_alone cap (table_of card) first second
offer_by cap card first second (chosen step) = both_tables cap (table_of card) (step_table card step) first second

-- the whole call: Build's numbers for a plain card, then 29 and 11
abbrev pub offering : List ℕ → ℕ → List ℕ → List ℕ → Offer
offering bytes cap first second =
    on_answer (read_plain bytes) (nothing_done first second) (λ card. offer_by cap card first second (best_step cap card))
