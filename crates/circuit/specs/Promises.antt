-- What is proved of gate tables, for every p and any number of gates: reading back, what a refusal leaves, what gates mean, and bounds.
-- Proved in `proofs/Promises.antt`, `proofs/Reading.antt`, `proofs/Later.antt`, `proofs/Bytes.antt`, `proofs/Unaltered.antt`,
-- `proofs/Meaning.antt` and `proofs/Bounds.antt`.
use Rattle.std.specs.Prelude.{◌≡◌, ◌↔◌, true, List, [], ◌++◌, ℕ, ◌+◌, ◌*◌, ◌≤◌, ◌<◌, length, take, drop}
use Rattle.answer.specs.Outcome.{refused, accepted, Keeps}
use Rattle.answer.specs.Report.{Report}
use Rattle.digits.specs.Number.{all_below}
use Rattle.field.specs.Byte.{byte_values}
use Rattle.circuit.specs.Depth.{depths}
use Rattle.circuit.specs.Gate.{Gate}
use Rattle.circuit.specs.Meaning.{Algebra, entries, entry_at, Solves, output}
use Rattle.circuit.specs.Outcomes.{checking, trimming, running_table, running}
use Rattle.circuit.specs.Reading.{count_of, reading}
use Rattle.circuit.specs.Report.{report}
use Rattle.circuit.specs.Table.{Head, Table, left_slots, right_slots, table_bytes, all_fit, well_formed, most_gates}
use Rattle.circuit.specs.Value.{values}

-- ---- reading back

-- a table's bytes, with anything after them, read as that table
abbrev pub TableReadsBack : Type 0
TableReadsBack = (table : Table) (later : List ℕ) → well_formed table ≡ true → reading (table_bytes table ++ later) ≡ accepted table

-- and nothing else is read: accepted bytes are those of a well-formed table, and what comes after it
abbrev pub OnlyTables : Type 0
OnlyTables =
    (bytes : List ℕ) (table : Table) → all_below byte_values bytes ≡ true → reading bytes ≡ accepted table
    → (well_formed table ≡ true) × (bytes ≡ table_bytes table ++ drop (8 * (length table.gates + 1)) bytes)

-- "Later bytes are not looked at", also where a gate is refused
abbrev pub LaterBytes : Type 0
LaterBytes =
    (bytes later : List ℕ) → 8 ≤ length bytes → 8 * (count_of bytes + 1) ≤ length bytes → reading (bytes ++ later) ≡ reading bytes

-- "Every record .. has 8 bytes.": so a table has 8(G+1)
abbrev pub TableLength : Type 0
TableLength = (table : Table) → length (table_bytes table) ≡ 8 * (length table.gates + 1)

-- a table's bytes are bytes
abbrev pub TableBytes : Type 0
TableBytes = (table : Table) → well_formed table ≡ true → all_below byte_values (table_bytes table) ≡ true

-- Check accepts every table, with the table's own counts and depth
abbrev pub ChecksTables : Type 0
ChecksTables =
    (table : Table) (later : List ℕ) → well_formed table ≡ true → checking (table_bytes table ++ later) ≡ accepted (report table)

-- Check accepts nothing but tables
abbrev pub ChecksOnlyTables : Type 0
ChecksOnlyTables =
    (bytes : List ℕ) (told : Report) → all_below byte_values bytes ≡ true → checking bytes ≡ accepted told
    → (table : Table) × (later : List ℕ) × (well_formed table ≡ true) × (bytes ≡ table_bytes table ++ later) × (told ≡ report table)

-- Trim hands back exactly head and gates
abbrev pub TrimsTables : Type 0
TrimsTables = (table : Table) (later : List ℕ) → well_formed table ≡ true → trimming (table_bytes table ++ later) ≡ table_bytes table

-- whatever the bytes, what it hands back is their start
abbrev pub TrimsStart : Type 0
TrimsStart = (bytes : List ℕ) → take (length (trimming bytes)) bytes ≡ trimming bytes

-- "where Check refuses, the empty part"
abbrev pub TrimsNothing : Type 0
TrimsNothing = (bytes : List ℕ) (number : ℕ) → checking bytes ≡ refused number → trimming bytes ≡ []

-- Run on a table's bytes runs that table
abbrev pub RunsTables : Type 0
RunsTables =
    (table : Table) (later left right work : List ℕ) → well_formed table ≡ true
    → running (table_bytes table ++ later) left right work ≡ running_table left right work table

-- "Accepted and finished: all others.": lists and a work buffer that keep the rules are run, with the value of every gate
abbrev pub RunAccepts : Type 0
RunAccepts =
    (table : Table) (later left right work : List ℕ) → well_formed table ≡ true
    → length left ≡ left_slots table.head → length right ≡ right_slots table.head
    → all_below table.head.prime left ≡ true → all_below table.head.prime right ≡ true → length table.gates ≤ length work
    → running (table_bytes table ++ later) left right work
    ≡ record {
      answer = accepted (output (values table.head.prime left right) table.gates);
      lent = entries (values table.head.prime left right) table.gates ++ drop (length table.gates) work;
    }

-- of such lists, 20 exactly where the work buffer is under G
abbrev pub WorkDecides : Type 0
WorkDecides =
    (table : Table) (later left right work : List ℕ) → well_formed table ≡ true
    → length left ≡ left_slots table.head → length right ≡ right_slots table.head
    → all_below table.head.prime left ≡ true → all_below table.head.prime right ≡ true
    → ((running (table_bytes table ++ later) left right work).answer ≡ refused 20) ↔ (length work < length table.gates)

-- "every lent byte is then unaltered"
abbrev pub RunKeeps : Type 0
RunKeeps = (bytes left right work : List ℕ) → Keeps work (running bytes left right work)

-- ---- meaning

-- of a table's gates, for every meaning: one entry for each, and each is what its gate means by the others
abbrev pub EachItsMeaning : Type 1
EachItsMeaning =
    (A : Type 0) (alg : Algebra A) (head : Head) (gates : List Gate) → all_fit head 0 gates ≡ true
    → (length (entries alg gates) ≡ length gates) × Solves alg (entry_at alg gates) 0 gates

-- gates written after them change none of these
abbrev pub EntriesKept : Type 1
EntriesKept =
    (A : Type 0) (alg : Algebra A) (gates later : List Gate) (k : ℕ) → k < length gates
    → entry_at alg (gates ++ later) k ≡ entry_at alg gates k

-- ---- bounds

-- every value is below p, whatever the gates
abbrev pub ValuesBelow : Type 0
ValuesBelow =
    (p : ℕ) (left right : List ℕ) (gates : List Gate) → 0 < p → all_below p left ≡ true → all_below p right ≡ true
    → all_below p (entries (values p left right) gates) ≡ true

-- no gate is deeper than its number
abbrev pub DepthsBelow : Type 0
DepthsBelow =
    (head : Head) (gates : List Gate) (k : ℕ) → all_fit head 0 gates ≡ true → k < length gates → entry_at depths gates k ≤ k

-- the bounds of a report: G ≤ 8191, depth ≤ 8190, cost ≤ 819,100
abbrev pub Bounded : Report → Type 0
Bounded told =
    (told.gates ≤ most_gates) × (told.depth ≤ 8190) × (told.cost ≤ 819100) × (told.products + told.squares ≤ told.gates)

-- whatever Check answers keeps them
abbrev pub ReportBounds : Type 0
ReportBounds = (bytes : List ℕ) (told : Report) → checking bytes ≡ accepted told → Bounded told
