-- The promises of tables: what Check, Trim and Run answer for a table's bytes, that Check accepts nothing else, and the bounds of what it answers.
-- All follow from what reading gives, in `proofs/Reading.antt`.
-- Assumes nothing.
use mathlib.Core.Path.{◌≡◌, refl, sym, ap, ◌∙◌}
use mathlib.Core.Bool.{not, ◌&&◌, ◌||◌}
use mathlib.Core.List.{List, [], ◌++◌}
use Prim.Native.Nat.{ℕ, ◌+◌, ◌-◌, ◌*◌, ◌<◌}
use native.Mathlib.Omega.{arith}
use native.Mathlib.Decide.{dec_lt}
use borrow.Author.Tests.{eq-eqb, lt-ltb, le-ltb}
use lib.Dec.{ltb, eqb}
use lib.ListN.{length, take, drop, take-append-drop}
use lib.Seq.{take_at, take-append_seam}
use Rattle.answer.specs.Outcome.{Answer, refused, accepted, Outcome, unaltered, on_answer}
use Rattle.answer.specs.Report.{Report}
use Rattle.answer.proofs.Outcome.{refused≢accepted, passed, answered, accepted_same}
use Rattle.field.proofs.Tests.{in_range}
use Rattle.digits.specs.Number.{all_below}
use Rattle.circuit.specs.Meaning.{output}
use Rattle.circuit.specs.Outcomes.{checking, running_table, running}
use Rattle.circuit.specs.Promises.{TableReadsBack, OnlyTables, ChecksTables, ChecksOnlyTables, TrimsTables, TrimsStart, TrimsNothing, RunsTables, RunAccepts, WorkDecides, Bounded, ReportBounds}
use Rattle.circuit.specs.Reading.{reading}
use Rattle.circuit.specs.Report.{report}
use Rattle.circuit.specs.Table.{Table, left_slots, right_slots, table_bytes, least_weight, most_weight, most_gates}
use Rattle.circuit.specs.Value.{values}
use Rattle.circuit.proofs.Bounds.{depths_below, counted_below, cost_below}
use Rattle.circuit.proofs.Reading.{table_length, read_table_lem, reads, bytes_read}
use Rattle.circuit.proofs.WellFormed.{WellFormed, well_formed_lem, is_well_formed}

pub table_reads_back : TableReadsBack
table_reads_back table later t = read_table_lem table later (well_formed_lem table t)

pub only_tables : OnlyTables
only_tables bytes table h e =
    let r = reads bytes table e in (is_well_formed table r.formed, bytes_read bytes table h r)

pub checks_tables : ChecksTables
checks_tables table later t = rw (table_reads_back table later t)

pub checks_only_tables : ChecksOnlyTables
checks_only_tables bytes told h e =
    let r = answered (reading bytes) _ e in
    let only = only_tables bytes r.0 h r.1 in
    (r.0, drop (8 * (length r.0.gates + 1)) bytes, only.0, only.1, sym (accepted_same r.2))

pub trims_tables : TrimsTables
trims_tables table later t =
    rw (checks_tables table later t) (take_at (table_bytes table) later (8 * (length table.gates + 1)) (table_length table))

-- the start that is as long as a start is that start
same_start : (n : ℕ) (bytes : List ℕ) → take (length (take n bytes)) bytes ≡ take n bytes
same_start n bytes =
    ap (take (length (take n bytes))) (sym (take-append-drop n bytes)) ∙ take-append_seam (take n bytes) (drop n bytes)

pub trims_start : TrimsStart
trims_start bytes = go (checking bytes)
  where
    go : (checked : Answer Report)
        → let part : List ℕ = on_answer checked (λ number. []) (λ told. take (8 * (told.gates + 1)) bytes) in take (length part) bytes ≡ part
    go (refused number) = refl
    go (accepted told) = same_start (8 * (told.gates + 1)) bytes

pub trims_nothing : TrimsNothing
trims_nothing bytes number e = rw e

pub runs_tables : RunsTables
runs_tables table later left right work t = rw (table_reads_back table later t)

pub run_accepts : RunAccepts
run_accepts table later left right work t l r hl hr enough =
    runs_tables table later left right work t ∙ rw (eq-eqb _ _ l, eq-eqb _ _ r, hl, hr, le-ltb _ _ enough)

-- whatever Run accepts, "the answer is the output"
pub run_answers : (table : Table) (left right work : List ℕ) (value : ℕ) → (running_table left right work table).answer ≡ accepted value
    → output (values table.head.prime left right) table.gates ≡ value
run_answers table left right work value e =
    let p = table.head.prime in
    let wrong = not (eqb (length left) (left_slots table.head)) || not (eqb (length right) (right_slots table.head)) in
    let lists = passed answer wrong (unaltered work 18) _ refl e in
    let low = passed answer (not (all_below p left && all_below p right)) (unaltered work 19) _ refl lists.1 in
    accepted_same (passed answer (ltb (length work) (length table.gates)) (unaltered work 20) _ refl low.1).1
  where
    answer : Outcome ℕ → Answer ℕ
    answer o = o.answer

pub work_decides : WorkDecides
work_decides table later left right work t l r hl hr = (
  there (dec_lt (length work) (length table.gates)),
  λ short. rw (runs_tables table later left right work t, eq-eqb _ _ l, eq-eqb _ _ r, hl, hr, lt-ltb _ _ short),
)
  where
    there : Dec (length work < length table.gates) → (running (table_bytes table ++ later) left right work).answer ≡ refused 20
        → length work < length table.gates
    there (yes short) e = short
    there (no n) e =
        let ran = run_accepts table later left right work t l r hl hr (omega arith) in
        absurd (refused≢accepted (sym e ∙ ap (λ (o : Outcome ℕ). o.answer) ran))

bounds : (table : Table) → WellFormed table → Bounded (report table)
bounds table w =
    let gates = table.gates in
    let count = in_range (length gates) 1 most_gates w.count in
    let weight = in_range table.head.weight least_weight most_weight w.weight in (
      count.1,
      omega (arith, depths_below table.head gates (length gates - 1) w.fitted (omega arith)),
      omega (arith, cost_below table.head.weight gates weight.1),
      counted_below gates,
    )

pub report_bounds : ReportBounds
report_bounds bytes told e =
    let r = answered (reading bytes) _ e in
    rw (← accepted_same r.2) (bounds r.0 (reads bytes r.0 r.1).formed)
