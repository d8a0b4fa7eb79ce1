-- What is proved of a card filled in condition by condition (document 02, E8). Proved in `proofs/Promises.antt`; of any calls one after the other
-- in `proofs/Calls.antt`. Check and Run in between are lent the table to read and leave it as it is, so they are no steps here.
use Rattle.std.specs.Prelude.{◌≡◌, true, false, List, [], ◌∷◌, ◌++◌, ℕ, ◌≤◌, length}
use Rattle.answer.specs.Outcome.{refused, accepted, on_answer}
use Rattle.answer.specs.Report.{Report}
use Rattle.field.specs.Bit.{bit}
use Rattle.digits.specs.Number.{base, all_below}
use Rattle.circuit.specs.Bytes.{marked}
use Rattle.circuit.specs.Every.{Every}
use Rattle.circuit.specs.Outcomes.{checking, running}
use Rattle.circuit.specs.Reading.{reading}
use Rattle.circuit.specs.Report.{report}
use Rattle.circuit.specs.Table.{Table}
use Rattle.comparison.specs.Condition.{Condition, holds}
use Rattle.comparison.specs.Tests.{base_tests}
use Rattle.query.specs.Card.{most_conditions, slots_of}
use Rattle.query.specs.Form.{Plain, head_mark_of, record_size}
use Rattle.query.specs.Outcomes.{building}
use Rattle.query.specs.Reading.{read_condition, read_conditions}
use Rattle.query.specs.Whole.{draft_of}
use Rattle.filling.specs.Filling.{Step, settled, head_of, beginning, adding, finishing}
use Rattle.filling.specs.State.{BuildState, no_build, is_closed}

-- ---- accepted calls

-- the records one after the other
unfoldable pub together : List (List ℕ) → List ℕ
together [] = []
together (r ∷ rs) = r ++ together rs

-- the card of the one-go build: 0xC5 0x48, p, s, c, spare 0, then the records
abbrev pub card_of : ℕ → ℕ → List (List ℕ) → List ℕ
card_of p s records = marked (head_mark_of Plain) (p ∷ s ∷ length records ∷ 0 ∷ []) ++ together records

-- accepted adds one after the other lead from a state and a table to a state and a table
unfoldable pub AllAdded : BuildState → List ℕ → List (List ℕ) → BuildState → List ℕ → Type 0
AllAdded s₁ table₁ [] s₂ table₂ = (s₁ ≡ s₂) × (table₁ ≡ table₂)
AllAdded s₁ table₁ (r ∷ rs) s₂ table₂ =
    (state : BuildState) × (table : List ℕ) × (adding s₁ r table₁ ≡ settled state table) × AllAdded state table rs s₂ table₂

-- an accepted begin and accepted adds after it, which found the table as it was and leave this state and this table
pub record Opened (p s : ℕ) (records : List (List ℕ)) (found : List ℕ) (state : BuildState) (table : List ℕ) : Type 0 where
  pub before : BuildState
  pub s₁ : BuildState
  pub table₁ : List ℕ
  pub begins : beginning before p s found ≡ settled s₁ table₁
  pub adds : AllAdded s₁ table₁ records state table

-- ---- finish

-- "For every accepted begin and list of accepted adds after it, an accepted finish leaves exactly the bytes of the one-go build
-- and answers as it does": all lent bytes, compared with Build on the bytes as begin found them
abbrev pub FinishIsBuild : Type 0
FinishIsBuild =
    (p s : ℕ) (records : List (List ℕ)) (found table : List ℕ) (state : BuildState) (told : Report) → Opened p s records found state table
    → (finishing state table).answer ≡ accepted told
    → ((building (card_of p s records) found).answer ≡ accepted told)
    × ((building (card_of p s records) found).lent ≡ (finishing state table).lent)

-- and where it is refused so is the one-go build, by the same number: the two answers are one
abbrev pub FinishAnswers : Type 0
FinishAnswers =
    (p s : ℕ) (records : List (List ℕ)) (found table : List ℕ) (state : BuildState) → Opened p s records found state table
    → 1 ≤ length records → (finishing state table).answer ≡ (building (card_of p s records) found).answer

-- and the other way round: whatever Build takes in one go can be filled in, from any state, with the same answer and bytes
abbrev pub BuildIsFinish : Type 0
BuildIsFinish =
    (before : BuildState) (p s : ℕ) (records : List (List ℕ)) (found : List ℕ) (told : Report)
    → Every (λ (r : List ℕ). length r ≡ record_size Plain) records
    → (building (card_of p s records) found).answer ≡ accepted told
    → (state : BuildState) × (table : List ℕ) × (o : Opened p s records found state table)
    × (o.before ≡ before)
    × ((finishing state table).answer ≡ accepted told)
    × ((finishing state table).lent ≡ (building (card_of p s records) found).lent)

-- "An accepted finish closes the build.": add and finish then give 31
abbrev pub FinishCloses : Type 0
FinishCloses =
    (state : BuildState) (table r lent : List ℕ) (told : Report) → (finishing state table).answer ≡ accepted told
    → ((finishing state table).state ≡ no_build)
    × ((adding no_build r lent).answer ≡ refused 31)
    × ((finishing no_build lent).answer ≡ refused 31)

-- ---- while the build is open

-- a build that accepted calls have begun is open
abbrev pub StaysOpen : Type 0
StaysOpen =
    (p s : ℕ) (records : List (List ℕ)) (found table : List ℕ) (state : BuildState) → Opened p s records found state table
    → (is_closed state ≡ false) × (length state.outputs ≡ length records)

-- "30, a ninth condition", whatever its record is
abbrev pub NinthRefused : Type 0
NinthRefused =
    (p s : ℕ) (records : List (List ℕ)) (r found table lent : List ℕ) (state : BuildState) → Opened p s records found state table
    → length records ≡ most_conditions → (adding state r lent).answer ≡ refused 30

-- "31, .. finish with none added"
abbrev pub NoneAdded : Type 0
NoneAdded =
    (p s : ℕ) (found table lent : List ℕ) (state : BuildState) → Opened p s [] found state table → (finishing state lent).answer ≡ refused 31

-- "Before the first one, check gives 13."
abbrev pub NothingYet : Type 0
NothingYet =
    (p s : ℕ) (found table : List ℕ) (state : BuildState) → Opened p s [] found state table → checking table ≡ refused 13

-- the table of conditions without a product tree
abbrev pub table_so_far : ℕ → ℕ → List Condition → Table
table_so_far p s conditions = record { head = head_of p s (slots_of conditions); gates = (draft_of (base_tests p) p conditions).gates }

-- "While the build is open the table's head tells the gates and slots added so far": the table is that of exactly the conditions so far,
-- and Check reports on it; the state tells the same gates and slots
abbrev pub HeadSoFar : Type 0
HeadSoFar =
    (p s : ℕ) (records : List (List ℕ)) (found table : List ℕ) (state : BuildState) → Opened p s records found state table
    → 1 ≤ length records
    → (conditions : List Condition)
    × (read_conditions Plain p 0 (length records) (together records) ≡ accepted conditions)
    × (reading table ≡ accepted (table_so_far p s conditions))
    × (checking table ≡ accepted (report (table_so_far p s conditions)))
    × (state.slots ≡ slots_of conditions)
    × (state.gates ≡ length (table_so_far p s conditions).gates)

-- "run answers the newest condition": that of the last accepted add's record, on lists as long as the slots so far
abbrev pub NewestRuns : Type 0
NewestRuns =
    (p s : ℕ) (records : List (List ℕ)) (r found table later : List ℕ) (state next : BuildState) → Opened p s records found state table
    → adding state r table ≡ settled next later
    → (c : Condition)
    × (read_condition Plain p state.slots r ≡ accepted c)
    × ((left right work : List ℕ) → length left ≡ next.slots → length right ≡ next.slots
    → all_below (base p) left ≡ true → all_below (base p) right ≡ true → next.gates ≤ length work
    → (running later left right work).answer ≡ accepted (bit (holds (base p) left right c)))

-- ---- refused calls

-- the state and every lent byte as they were, where the step is refused
pub record StepKept {A : Type 0} (state : BuildState) (table : List ℕ) (step : Step A) : Type 0 where
  pub kept : (number : ℕ) → step.answer ≡ refused number → (step.state ≡ state) × (step.lent ≡ table)

-- "A refused call in between changes nothing and the build stays open"
abbrev pub StepKeeps : Type 0
StepKeeps =
    (state : BuildState) (p s : ℕ) (r table : List ℕ)
    → StepKept state table (beginning state p s table)
    × StepKept state table (adding state r table)
    × StepKept state table (finishing state table)

-- ---- any calls

pub data Call : Type 0 where
  Begin : ℕ → ℕ → Call
  Add : List ℕ → Call
  Finish : Call

-- what the accepted calls add up to: no build is open, or one was begun with p and s over these bytes, and these records were added
pub data Log : Type 0 where
  nothing : Log
  since : (p s : ℕ) (found : List ℕ) (records : List (List ℕ)) → Log

-- one record more
abbrev pub logged : Log → List ℕ → Log
logged nothing r = nothing
logged (since p s found records) r = since p s found (records ++ (r ∷ []))

-- what the next call is given
pub record Standing : Type 0 where
  pub state : BuildState
  pub table : List ℕ
  pub log : Log

-- "Every call is lent the same table and given the build's state as the last accepted begin, add or finish left it"
unfoldable pub called : Call → Standing → Standing
called (Begin p s) now =
    let step = beginning now.state p s now.table in
    record {
      state = step.state;
      table = step.lent;
      log = on_answer step.answer (λ number. now.log) (λ done. since p s now.table []);
    }
called (Add r) now =
    let step = adding now.state r now.table in
    record { state = step.state; table = step.lent; log = on_answer step.answer (λ number. now.log) (λ done. logged now.log r) }
called Finish now =
    let step = finishing now.state now.table in
    record { state = step.state; table = step.lent; log = on_answer step.answer (λ number. now.log) (λ told. nothing) }

unfoldable pub called_all : List Call → Standing → Standing
called_all [] now = now
called_all (c ∷ cs) now = called_all cs (called c now)

-- the state and the table are those that the log tells
abbrev pub Tells : Log → BuildState → List ℕ → Type 0
Tells nothing state table = state ≡ no_build
Tells (since p s found records) state table = Opened p s records found state table

-- "at the start no build is open": after any calls, accepted and refused ones in any order, either no build is open, or the last accepted begin
-- and the accepted adds after it are all that counts; so each of the claims above holds after any calls
abbrev pub AnyCalls : Type 0
AnyCalls =
    (calls : List Call) (table : List ℕ)
    → let now = called_all calls (record { state = no_build; table = table; log = nothing }) in
    Tells now.log now.state now.table
